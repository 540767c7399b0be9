-- What a load of a slot's word tells of a timer that may be armed, and what may be cancelled then.

use Rattle.std.proofs.Common.{◌≡◌, ◌≢◌, ⊎_elim, ℕ, ℤ, Bool, true, ◌&&◌, nat_lt, cond, Option, Some, None, refl, sym, ap, subst, ◌∙◌, arith, eq-eqb, ne_eqb}
use Rattle.std.proofs.lemmas.Bool.{and_parts, ltb-true}
use Rattle.ert_defs.specs.{Actors.IsUser, Entries.peek_entry, Legal.{IsSlot, is_generation, names_timer}, Milliseconds.left, States.{State, state}, Timers.{row_of, timer_at}, Words.{word_of_slot, timer_word}, declared.entry.Actor.Actor}
use Rattle.ert_defs.specs.{declared.settings.Settings.Settings, declared.timer.Status.Status, declared.timer.Status.TheVariants.{Armed, Expired, Delivered, Cancelled, Orphaned, Dropped}, declared.timer.TimerRef.TimerRef}
use Rattle.ert_table.specs.{Ranges.{IsTimer, TellsArmed, shown_generation, word_deadline}, Held.is_held, Peeking.{Peeks, PeeksAndCancels}, Renewals.PeeksWord, Settlings.{ShownWord, HasRow, left_of_shown, left_shown, read_entry, hit_entry}}
use Rattle.ert_table.specs.{Settlings.{parts_in, Settles}, Takes.{MayStep, Appends}, declared.carry.Settle.TheVariants.Cancel, declared.carry.TimerCarry.TheVariants.Peek, declared.view.View.View}
use Rattle.ert_table.proofs.{Armed.code_low, ReadActs.parts_used, SlotFacts.{KeepsSlots, slots_kept}, SlotWords.{IsIdle, IsUsed, armed_by_word, slot_cases}, TimerWords.{same_parts, word_parts}}

-- the word of an armed timer shows what is left of it
armed_shown : (g : Settings) (look : ℤ) (timer : TimerRef) (n deadline : ℕ) → IsTimer deadline timer.generation
    → n ≡ timer_word Armed deadline timer.generation → left_shown g look timer.generation (parts_in n) ≡ Some (left g deadline look)
armed_shown g look timer n deadline fits is =
    let own : left_of_shown g look timer.generation Armed deadline timer.generation ≡ Some (left g deadline look) =
    rw (eq-eqb timer.generation timer.generation refl) refl in
    ap (λ m. left_shown g look timer.generation (parts_in m)) is
    ∙ (ap (left_shown g look timer.generation) (parts_used Armed deadline timer.generation fits) ∙ own)

-- nothing is left by a word that shows another status or another generation
left_unarmed : (g : Settings) (look : ℤ) (wanted : ℕ) (status : Status) (deadline generation : ℕ) → (status ≡ Armed → generation ≢ wanted)
    → left_of_shown g look wanted status deadline (shown_generation status generation) ≡ None
left_unarmed g look wanted Armed deadline generation not = rw (ne_eqb generation wanted (not refl)) refl
left_unarmed g look wanted Expired deadline generation not = refl
left_unarmed g look wanted Delivered deadline generation not = refl
left_unarmed g look wanted Cancelled deadline generation not = refl
left_unarmed g look wanted Orphaned deadline generation not = refl
left_unarmed g look wanted Dropped deadline generation not = refl

-- so nothing is left by each other word that a slot has
other_shown : (g : Settings) (s : State) (look : ℤ) (timer : TimerRef) (n : ℕ) → KeepsSlots s → word_of_slot s timer.wheel timer.slot ≡ n
    → ((deadline : ℕ) → IsTimer deadline timer.generation → n ≢ timer_word Armed deadline timer.generation)
    → left_shown g look timer.generation (parts_in n) ≡ None
other_shown g s look timer n kept word not =
    let w : ℕ = timer.wheel in
    let k : ℕ = timer.slot in
    let last : ℕ = s.last w k in
    ⊎_elim
    (λ (idle : IsIdle s w k n). ap (λ m. left_shown g look timer.generation (parts_in m)) idle.word)
    (λ (used : IsUsed s w k n).
    let d : ℕ = used.row.deadline in
    let shown : parts_in n ≡ Some (used.status, d, shown_generation used.status last) =
    ap parts_in used.word ∙ parts_used used.status d last used.in_range in
    let other : used.status ≡ Armed → last ≢ timer.generation = λ armed same.
    not d (subst (λ m. IsTimer d m) same used.in_range)
    (used.word ∙ (ap (λ x. timer_word x d last) armed ∙ ap (λ m. timer_word Armed d m) same)) in
    ap (left_shown g look timer.generation) shown ∙ left_unarmed g look timer.generation used.status d last other)
    (slot_cases s w k n kept word)

-- the word of an armed timer tells that it has a row with that deadline
row_by_word : (s : State) (timer : TimerRef) (deadline n : ℕ) → KeepsSlots s → word_of_slot s timer.wheel timer.slot ≡ n
    → IsTimer deadline timer.generation → n ≡ timer_word Armed deadline timer.generation → HasRow s timer deadline
row_by_word s timer deadline n kept word fits is =
    let w : ℕ = timer.wheel in
    let k : ℕ = timer.slot in
    let last : ℕ = s.last w k in
    ⊎_elim
    (λ (idle : IsIdle s w k n). absurd (omega (arith, idle.word, is, code_low Armed timer.generation)))
    (λ (used : IsUsed s w k n).
    let same = same_parts used.status Armed used.row.deadline deadline last timer.generation used.in_range fits (sym used.word ∙ is) in
    let own : last ≡ timer.generation = subst (λ x. shown_generation x last ≡ timer.generation) same.0 same.2 in
    let r : HasRow s timer deadline = record {
      row = used.row;
      stands = subst (λ m. row_of (s.rows w) (timer_at w k m) ≡ Some used.row) own used.row_is;
      due = same.1;
    } in r)
    (slot_cases s w k n kept word)

-- a load of a slot's word reads a timer, whose deadline the word tells where it is armed
pub peeks : (g : Settings) (v : View) (by : Actor) (timer : TimerRef) (n : ℕ) (answer : Option ℕ) (w : View)
    → Appends g v (read_entry g ((state g v.front).looked by) by (Peek timer) (parts_in n)) w
    → word_of_slot (state g w.front) timer.wheel timer.slot ≡ n → TellsArmed n timer.generation answer → Peeks g v by timer answer w
peeks g v by timer n None w step word told =
    let look : ℤ = (state g v.front).looked by in
    let none = other_shown g (state g w.front) look timer n (slots_kept g w.front step.legal) word
    (λ d fits is. (let no : None ≡ Some d = told.unpacks d fits is in cc)) in
    record { step = subst (λ x. Appends g v (peek_entry by timer x) w) none step; row = tt }
peeks g v by timer n (Some deadline) w step word told =
    let look : ℤ = (state g v.front).looked by in
    record {
      step = subst (λ x. Appends g v (peek_entry by timer x) w) (armed_shown g look timer n deadline told.in_range told.packs) step;
      row = row_by_word (state g w.front) timer deadline n (slots_kept g w.front step.legal) word told.in_range told.packs;
    }

-- the same where its word is answered
pub peeks_unarmed : (g : Settings) (v : View) (by : Actor) (timer : TimerRef) (n : ℕ) (answer : Option ℕ) (w : View) → answer ≡ None
    → Appends g v (read_entry g ((state g v.front).looked by) by (Peek timer) (parts_in n)) w
    → word_of_slot (state g w.front) timer.wheel timer.slot ≡ n → TellsArmed n timer.generation answer → PeeksWord g v by timer None w
peeks_unarmed g v by timer n answer w is step word told =
    let peek = peeks g v by timer n None w step word (subst (TellsArmed n timer.generation) is told) in
    record { step = peek.step; tells = tt }

pub peeks_armed : (g : Settings) (v : View) (by : Actor) (timer : TimerRef) (n : ℕ) (answer : Option ℕ) (deadline : ℕ) (w : View) → answer ≡ Some deadline
    → Appends g v (read_entry g ((state g v.front).looked by) by (Peek timer) (parts_in n)) w
    → word_of_slot (state g w.front) timer.wheel timer.slot ≡ n → TellsArmed n timer.generation answer
    → PeeksWord g v by timer (Some (record { word = n })) w
peeks_armed g v by timer n answer deadline w is step word told =
    let look : ℤ = (state g v.front).looked by in
    let s : State = state g w.front in
    let tells = subst (TellsArmed n timer.generation) is told in
    let peek = peeks g v by timer n (Some deadline) w step word tells in
    let same : deadline ≡ word_deadline n =
    sym (ap word_deadline tells.packs ∙ (word_parts Armed deadline timer.generation tells.in_range).deadline_is) in
    record {
      step = subst (λ d. Appends g v (peek_entry by timer (Some (left g d look))) w) same peek.step;
      tells = (
        record { row = subst (HasRow s timer) same peek.row; is = subst (λ d. n ≡ timer_word Armed d timer.generation) same tells.packs },
        (armed_by_word s timer deadline n (slots_kept g w.front step.legal) word tells.in_range tells.packs).0,
      );
    }

-- a reference in range names a slot, and a timer that may be
module _ (g : Settings) (timer : TimerRef) (within : names_timer g timer ≡ true) where
  parts : ((nat_lt timer.wheel g.schedulers && nat_lt timer.slot g.slots) ≡ true) × (is_generation timer.generation ≡ true)
  parts = and_parts (nat_lt timer.wheel g.schedulers && nat_lt timer.slot g.slots) (is_generation timer.generation) within

  pub slot_named : IsSlot g timer.wheel timer.slot
  slot_named =
      let both = and_parts (nat_lt timer.wheel g.schedulers) (nat_lt timer.slot g.slots) parts.0 in
      record { wheel_high = ltb-true timer.wheel g.schedulers both.0; slot_high = ltb-true timer.slot g.slots both.1 }

  pub generation_named : is_generation timer.generation ≡ true
  generation_named = parts.1

-- a timer of a slot may be read and cancelled by a caller or a scheduler of the pass
module _ (g : Settings) (v : View) (by : Actor) (timer : TimerRef) (held : is_held v.actors by ≡ true) (user : IsUser g by) (slot : IsSlot g timer.wheel timer.slot) where
  pub may_peek : (shown : Option ShownWord) → MayStep g v (read_entry g ((state g v.front).looked by) by (Peek timer) shown)
  may_peek shown = record { ours = held; keeps = (user, refl, slot); known = tt }

  pub may_cancel : (deadline : ℕ) → MayStep g v (hit_entry g (state g v.front) by timer deadline Cancel)
  may_cancel deadline = record { ours = held; keeps = (user, refl, slot); known = tt }

-- a timer that was found without a deadline isn't cancelled
pub cancels_none : (g : Settings) (v : View) (by : Actor) (timer : TimerRef) (found answer : Option ℕ) (w : View) → Peeks g v by timer found w
    → found ≡ None → answer ≡ None → PeeksAndCancels g v by timer answer w
cancels_none g v by timer found answer w peek none nothing = record {
  found = None;
  between = w;
  peek = subst (λ x. Peeks g v by timer x w) none peek;
  cancel = (nothing, refl);
}

-- and one with a deadline is, or is missed
pub cancels_found : (g : Settings) (v : View) (by : Actor) (timer : TimerRef) (found : Option ℕ) (deadline : ℕ) (u : View) (hit : Bool) (w : View)
    → Peeks g v by timer found u → found ≡ Some deadline → Settles g u by timer deadline Cancel hit w
    → PeeksAndCancels g v by timer (cond hit (Some deadline) None) w
cancels_found g v by timer found deadline u hit w peek some settles = record {
  found = Some deadline;
  between = u;
  peek = subst (λ x. Peeks g v by timer x u) some peek;
  cancel = (hit, refl, settles);
}
