-- What the word of a slot tells of its last timer, and of an older one.

use Rattle.std.proofs.Common.{◌≡◌, ◌≢◌, ◌⊎◌, inl, inr, ⊎_elim, ℕ, true, Option, Some, None, refl, sym, ap, subst, ◌∙◌, arith}
use Rattle.ert_defs.specs.{States.{State, uses_at}, Timers.{Row, row_of, is_taken, timer_at}, Words.{timer_word, slot_word, word_of_slot}, declared.timer.Status.Status, declared.timer.Status.TheVariants.Armed}
use Rattle.ert_defs.specs.{declared.timer.TimerRef.TimerRef}
use Rattle.ert_defs.proofs.{ExpiredLists.taken_last, ExpiredTimers.row_named}
use Rattle.ert_table.specs.{Ranges.{IsTimer, shown_generation}, Settlings.status_in}
use Rattle.ert_table.proofs.{SlotFacts.{KeepsSlots, row_soon, used_in_range}, Armed.code_low, TimerWords.{word_parts, same_parts}}

-- a slot that was never used, and its word
pub record IsIdle (s : State) (w k n : ℕ) : Type 0 where
  pub status : s.status (timer_at w k (s.last w k)) ≡ None
  pub word : n ≡ 0

-- the last timer of a slot that was, and its word
pub record IsUsed (s : State) (w k n : ℕ) : Type 0 where
  pub status : Status
  pub row : Row
  pub status_is : s.status (timer_at w k (s.last w k)) ≡ Some status
  pub row_is : row_of (s.rows w) (timer_at w k (s.last w k)) ≡ Some row
  pub word : n ≡ timer_word status row.deadline (s.last w k)
  pub in_range : IsTimer row.deadline (s.last w k)

slot_at : (s : State) (w k n : ℕ) (status : Option Status) → KeepsSlots s → word_of_slot s w k ≡ n
    → s.status (timer_at w k (s.last w k)) ≡ status → IsIdle s w k n ⊎ IsUsed s w k n
slot_at s w k n None kept word is =
    let timer : TimerRef = timer_at w k (s.last w k) in
    let zero_word : word_of_slot s w k ≡ 0 = ap (λ x. slot_word x (row_of (s.rows w) timer) (s.last w k)) is in
    inl (record { status = is; word = sym word ∙ zero_word })
slot_at s w k n (Some status) kept word is =
    let timer : TimerRef = timer_at w k (s.last w k) in
    let used : s.status timer ≢ None = λ none. (let no : Some status ≡ None = sym is ∙ none in cc) in
    let stands = kept.stand timer used in
    let made : word_of_slot s w k ≡ timer_word status stands.row.deadline (s.last w k) =
    ap (λ x. slot_word x (row_of (s.rows w) timer) (s.last w k)) is ∙ ap (λ x. slot_word (Some status) x (s.last w k)) stands.is in
    inr (record {
      status = status;
      row = stands.row;
      status_is = is;
      row_is = stands.is;
      word = sym word ∙ made;
      in_range = used_in_range (uses_at s w k) stands.row timer (row_named (s.rows w) stands.row timer stands.is) (row_soon s timer stands.row kept stands.is)
          ((kept.ordered w k).each (s.last w k) used);
    })

-- a slot was never used, or its word is that of its last timer
pub slot_cases : (s : State) (w k n : ℕ) → KeepsSlots s → word_of_slot s w k ≡ n → IsIdle s w k n ⊎ IsUsed s w k n
slot_cases s w k n kept word = slot_at s w k n (s.status (timer_at w k (s.last w k))) kept word refl

-- the status in the word of a slot is that of its last timer
pub slot_found : (s : State) (w k n : ℕ) → KeepsSlots s → word_of_slot s w k ≡ n → status_in n ≡ s.status (timer_at w k (s.last w k))
slot_found s w k n kept word =
    ⊎_elim
    (λ (idle : IsIdle s w k n). ap status_in idle.word ∙ sym idle.status)
    (λ (used : IsUsed s w k n).
    let parts = word_parts used.status used.row.deadline (s.last w k) used.in_range in
    ap status_in used.word ∙ (parts.status_is ∙ sym used.status_is))
    (slot_cases s w k n kept word)

-- where the word of a slot is that of an armed timer, it is the last timer and is armed
pub armed_by_word : (s : State) (timer : TimerRef) (deadline n : ℕ) → KeepsSlots s
    → word_of_slot s timer.wheel timer.slot ≡ n → IsTimer deadline timer.generation → n ≡ timer_word Armed deadline timer.generation
    → (s.status timer ≡ Some Armed) × (s.last timer.wheel timer.slot ≡ timer.generation)
armed_by_word s timer deadline n kept word fits is =
    ⊎_elim
    (λ (idle : IsIdle s timer.wheel timer.slot n). absurd (omega (arith, idle.word, is, code_low Armed timer.generation)))
    (λ (used : IsUsed s timer.wheel timer.slot n).
    let last : ℕ = s.last timer.wheel timer.slot in
    let same = same_parts used.status Armed used.row.deadline deadline last timer.generation
    used.in_range fits (sym used.word ∙ is) in
    let own : last ≡ timer.generation = subst (λ x. shown_generation x last ≡ timer.generation) same.0 same.2 in (
      subst (λ m. s.status (timer_at timer.wheel timer.slot m) ≡ Some Armed) own
          (used.status_is ∙ ap (λ (x : Status). Some x) same.0),
      own,
    ))
    (slot_cases s timer.wheel timer.slot n kept word)

-- a timer that takes its slot is the last of it
pub taken_is_last : (s : State) (timer : TimerRef) (status : Status) → KeepsSlots s → is_taken (Some status) ≡ true
    → s.status timer ≡ Some status → s.last timer.wheel timer.slot ≡ timer.generation
taken_is_last s timer status kept taken is = sym (taken_last s timer kept.ordered (ap is_taken is ∙ taken))

-- and the word of the slot is that of it
pub word_by_status : (s : State) (timer : TimerRef) (status : Status) (row : Row) → KeepsSlots s → is_taken (Some status) ≡ true
    → s.status timer ≡ Some status → row_of (s.rows timer.wheel) timer ≡ Some row
    → word_of_slot s timer.wheel timer.slot ≡ timer_word status row.deadline timer.generation
word_by_status s timer status row kept taken is stands =
    let last = taken_is_last s timer status kept taken is in
    ap (λ m. slot_word (s.status (timer_at timer.wheel timer.slot m)) (row_of (s.rows timer.wheel) (timer_at timer.wheel timer.slot m)) m) last
    ∙ (ap (λ x. slot_word x (row_of (s.rows timer.wheel) timer) timer.generation) is
    ∙ ap (λ x. slot_word (Some status) x timer.generation) stands)

-- so where the word is another, the timer hasn't that status
pub not_by_word : (s : State) (timer : TimerRef) (status : Status) (row : Row) (n : ℕ) → KeepsSlots s → is_taken (Some status) ≡ true
    → row_of (s.rows timer.wheel) timer ≡ Some row → word_of_slot s timer.wheel timer.slot ≡ n
    → n ≢ timer_word status row.deadline timer.generation → s.status timer ≢ Some status
not_by_word s timer status row n kept taken stands word not is =
    not (sym word ∙ word_by_status s timer status row kept taken is stands)
