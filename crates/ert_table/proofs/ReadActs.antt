-- Loads of the words of slots take place with their entries.

use Rattle.std.proofs.Common.{◌≡◌, ◌≢◌, inl, inr, ⊎_elim, ℕ, ℤ, true, Option, Some, None, option_map, refl, sym, ap, subst, ◌∙◌, eq-eqb, ne_eqb}
use Rattle.std.specs.Prelude.{IsNone}
use Rattle.std.proofs.lemmas.Bool.{cases_eq}
use Rattle.ert_defs.specs.{Legal.{IsSlot, Keeps, Found, left_by}, States.{State, state}, Timers.{Row, row_of, timer_at}, Words.{word_of_slot, timer_word}, declared.entry.Actor.Actor, declared.entry.Entry.Entry}
use Rattle.ert_defs.specs.{declared.settings.Settings.Settings, declared.timer.Status.Status, declared.timer.Status.TheVariants.{Armed, Expired, Delivered, Cancelled, Orphaned, Dropped}, declared.timer.TimerRef.TimerRef}
use Rattle.ert_table.specs.{Ranges.{IsTimer, IsTimerWord, shown_generation, word_deadline, word_generation}, Acts.Acts, Held.is_held, Places.slot_place, Settlings.{ShownWord, wheel_in, slot_in, shown_by, shown_in, left_of_shown}}
use Rattle.ert_table.specs.{Settlings.{left_shown, read_entry, status_in, parts_in}, Takes.MayStep, declared.carry.TimerCarry.TimerCarry, declared.carry.TimerCarry.TheVariants.{Probe, Peek}, declared.view.View.View}
use Rattle.ert_table.proofs.{SlotFacts.{KeepsSlots, slots_kept}, SlotWords.{IsIdle, IsUsed, slot_cases, slot_found, taken_is_last}, TimerWords.word_parts, AtSteps.{look_then, slot_then}, Holders.held_maker, Misses.left_none}
use Rattle.ert_table.proofs.{WordSteps.{is_quiet, word_quiet}}

-- what a word shows of a timer
pub parts_used : (status : Status) (deadline generation : ℕ) → IsTimer deadline generation
    → parts_in (timer_word status deadline generation) ≡ Some (status, deadline, shown_generation status generation)
parts_used status deadline generation fits =
    let n : ℕ = timer_word status deadline generation in
    let parts = word_parts status deadline generation fits in
    ap (λ x. option_map (λ (s : Status). let r : ShownWord = (s, word_deadline n, word_generation n) in r) x) parts.status_is
    ∙ (ap (λ d. let r : ShownWord = (status, d, word_generation n) in Some r) parts.deadline_is
    ∙ ap (λ m. let r : ShownWord = (status, deadline, m) in Some r) parts.generation_is)

-- the word of a slot shows what its state does
pub parts_shown : (s : State) (w k n : ℕ) → KeepsSlots s → word_of_slot s w k ≡ n → parts_in n ≡ shown_in s w k
parts_shown s w k n kept word =
    let timer : TimerRef = timer_at w k (s.last w k) in
    ⊎_elim
    (λ (idle : IsIdle s w k n). ap parts_in idle.word
    ∙ sym (ap (λ x. shown_by x (row_of (s.rows w) timer) (s.last w k)) idle.status))
    (λ (used : IsUsed s w k n). ap parts_in used.word
    ∙ (parts_used used.status used.row.deadline (s.last w k) used.in_range
    ∙ sym (ap (λ x. shown_by x (row_of (s.rows w) timer) (s.last w k)) used.status_is
    ∙ ap (λ x. shown_by (Some used.status) x (s.last w k)) used.row_is)))
    (slot_cases s w k n kept word)

status_shown : (f : Status → ShownWord) → ((x : Status) → (f x).0 ≡ x) → (o : Option Status) → option_map (λ (x : ShownWord). x.0) (option_map f o) ≡ o
status_shown f is None = refl
status_shown f is (Some x) = ap (λ (y : Status). Some y) (is x)

-- another status than armed leaves nothing
left_used : (g : Settings) (look : ℤ) (wanted : ℕ) (status : Status) (row : Row) (generation : ℕ) → generation ≡ wanted
    → left_of_shown g look wanted status row.deadline (shown_generation status generation) ≡ left_by g look (Some status) (Some row)
left_used g look wanted Armed row generation same = rw (eq-eqb generation wanted same) refl
left_used g look wanted Expired row generation same = refl
left_used g look wanted Delivered row generation same = refl
left_used g look wanted Cancelled row generation same = refl
left_used g look wanted Orphaned row generation same = refl
left_used g look wanted Dropped row generation same = refl

left_other : (g : Settings) (look : ℤ) (wanted : ℕ) (status : Status) (deadline generation : ℕ) → generation ≢ wanted
    → left_of_shown g look wanted status deadline (shown_generation status generation) ≡ None
left_other g look wanted Armed deadline generation not = rw (ne_eqb generation wanted not) refl
left_other g look wanted Expired deadline generation not = refl
left_other g look wanted Delivered deadline generation not = refl
left_other g look wanted Cancelled deadline generation not = refl
left_other g look wanted Orphaned deadline generation not = refl
left_other g look wanted Dropped deadline generation not = refl

-- the milliseconds left by the word are those by the state
peek_found : (g : Settings) (s : State) (look : ℤ) (timer : TimerRef) (n : ℕ) → KeepsSlots s → word_of_slot s timer.wheel timer.slot ≡ n
    → left_shown g look timer.generation (parts_in n) ≡ left_by g look (s.status timer) (row_of (s.rows timer.wheel) timer)
peek_found g s look timer n kept word =
    let w : ℕ = timer.wheel in
    let k : ℕ = timer.slot in
    let none = left_none g look (s.status timer) (row_of (s.rows w) timer) in
    ⊎_elim
    (λ (idle : IsIdle s w k n).
    let not : s.status timer ≢ Some Armed = λ is.
    (let last = taken_is_last s timer Armed kept refl is in
    let no : None ≡ Some Armed = sym idle.status ∙ (ap (λ m. s.status (timer_at w k m)) last ∙ is) in cc) in
    ap (λ m. left_shown g look timer.generation (parts_in m)) idle.word ∙ sym (none not))
    (λ (used : IsUsed s w k n).
    let shown : parts_in n ≡ Some (used.status, used.row.deadline, shown_generation used.status (s.last w k)) =
    ap parts_in used.word ∙ parts_used used.status used.row.deadline (s.last w k) used.in_range in
    ap (left_shown g look timer.generation) shown ∙ ⊎_elim
    (λ (same : s.last w k ≡ timer.generation).
    let status : s.status timer ≡ Some used.status = subst (λ m. s.status (timer_at w k m) ≡ Some used.status) same used.status_is in
    let row : row_of (s.rows w) timer ≡ Some used.row =
    subst (λ m. row_of (s.rows w) (timer_at w k m) ≡ Some used.row) same used.row_is in
    left_used g look timer.generation used.status used.row (s.last w k) same
    ∙ sym (ap (λ x. left_by g look x (row_of (s.rows w) timer)) status ∙ ap (λ x. left_by g look (Some used.status) x) row))
    (λ differs. left_other g look timer.generation used.status used.row.deadline (s.last w k) differs
    ∙ sym (none (λ is. differs (taken_is_last s timer Armed kept refl is))))
    (cases_eq (s.last w k) timer.generation))
    (slot_cases s w k n kept word)

read_quiet : (g : Settings) (look : ℤ) (by : Actor) (carry : TimerCarry) (shown : Option ShownWord) → is_quiet (read_entry g look by carry shown).event ≡ true
read_quiet g look by (Probe wheel slot) shown = refl
read_quiet g look by (Peek timer) shown = refl

read_by : (g : Settings) (look : ℤ) (by : Actor) (carry : TimerCarry) (shown : Option ShownWord) → (read_entry g look by carry shown).by ≡ by
read_by g look by (Probe wheel slot) shown = refl
read_by g look by (Peek timer) shown = refl

pub read_slot : (g : Settings) (look : ℤ) (by : Actor) (carry : TimerCarry) (shown : Option ShownWord)
    → let e = read_entry g look by carry shown in Keeps g e.by e.with e.event → IsSlot g (wheel_in carry) (slot_in carry)
read_slot g look by (Probe wheel slot) shown h = h.2
read_slot g look by (Peek timer) shown h = h.2

read_found : (g : Settings) (s : State) (look : ℤ) (by : Actor) (carry : TimerCarry) (n : ℕ) → KeepsSlots s
    → word_of_slot s (wheel_in carry) (slot_in carry) ≡ n → s.looked by ≡ look
    → Found g s (read_entry g look by carry (parts_in n)).by (read_entry g look by carry (parts_in n)).event
read_found g s look by (Probe wheel slot) n kept word same =
    status_shown (λ (x : Status). let r : ShownWord = (x, word_deadline n, word_generation n) in r) (λ x. refl) (status_in n)
    ∙ slot_found s wheel slot n kept word
read_found g s look by (Peek timer) n kept word same =
    peek_found g s look timer n kept word ∙ ap (λ x. left_by g x (s.status timer) (row_of (s.rows timer.wheel) timer)) (sym same)

-- a load of the word of a slot records what is carried
pub read_acts : (g : Settings) (v : View) (by : Actor) (carry : TimerCarry) → let look = (state g v.front).looked by in
    ((shown : Option ShownWord) → MayStep g v (read_entry g look by carry shown))
    → Acts g v (slot_place g (wheel_in carry) (slot_in carry)) (λ n. n) (λ n. read_entry g look by carry (parts_in n))
read_acts g v by carry may =
    let look : ℤ = (state g v.front).looked by in
    let entry : ℕ → Entry = λ n. read_entry g look by carry (parts_in n) in
    let place : ℕ = slot_place g (wheel_in carry) (slot_in carry) in
    let slot = read_slot g look by carry None (may None).keeps in
    let held : is_held v.actors by ≡ true =
    subst (λ a. is_held v.actors a ≡ true) (read_by g look by carry None)
    (held_maker v.actors (read_entry g look by carry None).by (read_entry g look by carry None).with (may None).ours) in
    record {
      ours = λ n. (may (parts_in n)).ours;
      keeps = λ n. (may (parts_in n)).keeps;
      known = λ n. (may (parts_in n)).known;
      found = λ h n then. read_found g (state g h) look by carry n (slots_kept g h then.legal)
          (slot_then g v (wheel_in carry) (slot_in carry) n h slot then) (look_then g v place n h then by held);
      here = λ h n then. word_quiet g (state g h) (entry n) place (read_quiet g look by carry (parts_in n)) ∙ then.word;
      others = λ h n j then lt not. word_quiet g (state g h) (entry n) j (read_quiet g look by carry (parts_in n));
    }

-- the word of a slot is that of a timer, or the slot was never used
pub slot_word_is : (s : State) (w k n : ℕ) → KeepsSlots s → word_of_slot s w k ≡ n → IsTimerWord n
slot_word_is s w k n kept word =
    ⊎_elim
    (λ (idle : IsIdle s w k n). inl idle.word)
    (λ (used : IsUsed s w k n). inr (record {
      status = used.status;
      deadline = used.row.deadline;
      generation = s.last w k;
      in_range = used.in_range;
      stands = used.word;
    }))
    (slot_cases s w k n kept word)

none_is : (o : Option ShownWord) → IsNone o → o ≡ None
none_is None h = refl
none_is (Some x) h = absurd cc

-- what a word is unpacked to is what is shown of its slot
pub unpacked_shown : (s : State) (w k n : ℕ) (result : Option ShownWord) → KeepsSlots s → word_of_slot s w k ≡ n
    → (n ≡ 0 → IsNone result)
    → ((status : Status) (deadline generation : ℕ) → IsTimer deadline generation → n ≡ timer_word status deadline generation
    → result ≡ Some (status, deadline, shown_generation status generation))
    → result ≡ shown_in s w k
unpacked_shown s w k n result kept word idle_shown used_shown =
    let timer : TimerRef = timer_at w k (s.last w k) in
    ⊎_elim
    (λ (idle : IsIdle s w k n). none_is result (idle_shown idle.word)
    ∙ sym (ap (λ x. shown_by x (row_of (s.rows w) timer) (s.last w k)) idle.status))
    (λ (used : IsUsed s w k n). used_shown used.status used.row.deadline (s.last w k) used.in_range used.word
    ∙ sym (ap (λ x. shown_by x (row_of (s.rows w) timer) (s.last w k)) used.status_is
    ∙ ap (λ x. shown_by (Some used.status) x (s.last w k)) used.row_is))
    (slot_cases s w k n kept word)
