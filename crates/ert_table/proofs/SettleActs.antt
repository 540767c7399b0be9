-- An exchange of a slot's word takes place with its entry, whether it finds the word that it expects or not.

use Rattle.std.proofs.Common.{◌≡◌, ◌≢◌, ℕ, Bool, true, false, cond, nat_eq, List, [], ◌∷◌, ◌++◌, Some, refl, sym, ap, subst, ◌∙◌, eqb-true, eq-eqb}
use prog.Atomic.{either}
use Rattle.ert_defs.specs.{Actors.has_actor, Legal.{IsSlot, Found, Legal}, States.{State, opening, next, state}, Timers.{row_of, status_after, timer_at}, Words.{word_of, timer_word}, declared.entry.Actor.Actor}
use Rattle.ert_defs.specs.{declared.entry.Actor.TheVariants.Wheel, declared.entry.Entry.Entry, declared.settings.Settings.Settings, declared.timer.Status.Status, declared.timer.Status.TheVariants.Armed, declared.timer.TimerRef.TimerRef}
use Rattle.ert_defs.proofs.{ExpiredLists.{delivery_hits, drop_hits}, Runs.{legal_first, state-append}}
use Rattle.ert_table.specs.{Ranges.IsTimer, Acts.{Acts, IsHistoryAtStep, FindsNumber}, Held.is_held, Places.slot_place, Settlings.{HasRow, status_from, status_to, status_in, hit_entry, Settles, miss_entry, settle_entry}, Takes.MayStep}
use Rattle.ert_table.specs.{Takes.Appends, declared.carry.Settle.Settle, declared.carry.Settle.TheVariants.{Deliver, Drop}, declared.view.View.View}
use Rattle.ert_table.proofs.{AtSteps.{look_then, last_then, row_then, slot_then}, Hits.{from_taken, to_settled, hit_by, hit_slot, hit_status, hit_others, hit_found, hit_word}, Holders.held_maker, Misses.{can_miss, missed_from, miss_may}}
use Rattle.ert_table.proofs.{Misses.{miss_found, miss_status, miss_word, missed}, OneStep.grows, SlotFacts.{KeepsSlots, slots_kept, row_in_range}, SlotWords.{slot_found, armed_by_word, not_by_word, taken_is_last}, WordPlaces.word_of-slot}

module _ (g : Settings) (v : View) (by : Actor) (timer : TimerRef) (deadline : ℕ) where
  abbrev front : State
  front = state g v.front

  abbrev place : ℕ
  place = slot_place g timer.wheel timer.slot

  abbrev hit : Settle → Entry
  hit how = hit_entry g front by timer deadline how

  -- where the timer's status is another than the exchange expects, the exchange is one that can miss: a
  -- delivery or a drop finds its timer expired
  may_miss : (how : Settle) (h : List Entry) (n : ℕ) → IsHistoryAtStep g v place n h → MayStep g v (hit how)
      → (state g h).status timer ≢ Some (status_from how) → can_miss how ≡ true
  may_miss Deliver h n then may not =
      absurd (not (delivery_hits g h (hit Deliver) timer (grows g v place n (hit Deliver) h then may.ours may.keeps may.known tt) refl).0)
  may_miss Drop h n then may not =
      absurd (not (drop_hits g h (hit Drop) timer (grows g v place n (hit Drop) h then may.ours may.keeps may.known tt) refl).0)
  may_miss _ h n then may not = refl

  -- what is handed over has expired
  waits_for : (how : Settle) (h : List Entry) (n : ℕ) → IsHistoryAtStep g v place n h → MayStep g v (hit how) → can_miss how ≡ false
      → (state g h).status timer ≡ Some (status_from how)
  waits_for Deliver h n then may can =
      (delivery_hits g h (hit Deliver) timer (grows g v place n (hit Deliver) h then may.ours may.keeps may.known tt) refl).0
  waits_for Drop h n then may can =
      (drop_hits g h (hit Drop) timer (grows g v place n (hit Drop) h then may.ours may.keeps may.known tt) refl).0
  waits_for _ h n then may can = absurd cc

  module _ (how : Settle) (may : MayStep g v (hit how)) (has : HasRow front timer deadline) where
    abbrev old : ℕ
    old = timer_word (status_from how) deadline timer.generation

    abbrev new : ℕ
    new = timer_word (status_to how) deadline timer.generation

    abbrev miss : ℕ → Entry
    miss n = miss_entry (hit how) by timer how n

    slot : IsSlot g timer.wheel timer.slot
    slot = hit_slot g front by timer deadline how may.keeps

    by_held : is_held v.actors by ≡ true
    by_held = subst (λ a. is_held v.actors a ≡ true) (hit_by g front by timer deadline how)
        (held_maker v.actors (hit how).by (hit how).with may.ours)

    stands : (h : List Entry) (n : ℕ) → IsHistoryAtStep g v place n h → row_of ((state g h).rows timer.wheel) timer ≡ Some has.row
    stands h n then = row_then g v place n h then timer has.row has.stands

    -- where the word is that of the timer, it has the status, and is the last of its slot
    hits : (h : List Entry) (n : ℕ) → IsHistoryAtStep g v place n h → nat_eq n old ≡ true
        → ((state g h).status timer ≡ Some (status_from how)) × ((state g h).last timer.wheel timer.slot ≡ timer.generation)
    hits h n then is = at (can_miss how) refl
      where
        s : State
        s = state g h

        kept : KeepsSlots s
        kept = slots_kept g h then.legal

        fits : IsTimer deadline timer.generation
        fits = row_in_range g h timer deadline then.legal (record { row = has.row; stands = stands h n then; due = has.due })

        -- a message is handed over once its timer has expired
        waits : s.status timer ≡ Some (status_from how) → (s.status timer ≡ Some (status_from how)) × (s.last timer.wheel timer.slot ≡ timer.generation)
        waits status = (status, taken_is_last s timer (status_from how) kept (from_taken how) status)

        at : (b : Bool) → can_miss how ≡ b → (s.status timer ≡ Some (status_from how)) × (s.last timer.wheel timer.slot ≡ timer.generation)
        at true can =
            let from : status_from how ≡ Armed = missed_from how can in
            let word : n ≡ timer_word Armed deadline timer.generation = eqb-true n old is ∙ ap (λ x. timer_word x deadline timer.generation) from in
            let found = armed_by_word s timer deadline n kept (slot_then g v timer.wheel timer.slot n h slot then) fits word in
            (found.0 ∙ ap (λ (x : Status). Some x) (sym from), found.1)
        at false can = waits (waits_for how h n then may can)

    -- where it is another, the timer isn't armed, and the exchange is one that can miss
    record IsMissed (h : List Entry) : Type 0 where
      can : can_miss how ≡ true
      not_armed : (state g h).status timer ≢ Some Armed

    misses : (h : List Entry) (n : ℕ) → IsHistoryAtStep g v place n h → nat_eq n old ≡ false → IsMissed h
    misses h n then is =
        let kept = slots_kept g h then.legal in
        let not_old : n ≢ timer_word (status_from how) has.row.deadline timer.generation = λ same.
        (let yes : nat_eq n old ≡ true = eq-eqb n old (same ∙ ap (λ d. timer_word (status_from how) d timer.generation) has.due) in
        let no : true ≡ false = sym yes ∙ is in cc) in
        let not = not_by_word (state g h) timer (status_from how) has.row n kept (from_taken how) (stands h n then)
        (slot_then g v timer.wheel timer.slot n h slot then) not_old in
        let can = may_miss how h n then may not in
        record { can = can; not_armed = subst (λ x. (state g h).status timer ≢ Some x) (missed_from how can) not }

    -- the status in the word is that of the last timer of the slot
    found_last : (h : List Entry) (n : ℕ) → IsHistoryAtStep g v place n h
        → status_in n ≡ (state g h).status (timer_at timer.wheel timer.slot ((state g h).last timer.wheel timer.slot))
    found_last h n then =
        slot_found (state g h) timer.wheel timer.slot n (slots_kept g h then.legal) (slot_then g v timer.wheel timer.slot n h slot then)

    may_at : (n : ℕ) (b : Bool) → MayStep g v (cond b (hit how) (miss n))
    may_at n true = may
    may_at n false = miss_may g v by timer deadline how n may

    found_at : (h : List Entry) (n : ℕ) → IsHistoryAtStep g v place n h → (b : Bool) → nat_eq n old ≡ b
        → Found g (state g h) (cond b (hit how) (miss n)).by (cond b (hit how) (miss n)).event
    found_at h n then true is =
        hit_found g front by timer deadline (state g h) has.row (stands h n then) has.due how (hits h n then is).0
        (look_then g v place n h then by by_held)
    found_at h n then false is =
        miss_found g v by timer deadline (state g h) (misses h n then is).not_armed how n (found_last h n then)

    here_at : (h : List Entry) (n : ℕ) → IsHistoryAtStep g v place n h → (b : Bool) → nat_eq n old ≡ b
        → word_of g (next g (state g h) (cond b (hit how) (miss n))) place ≡ either b new n
    here_at h n then true is =
        let sure = hits h n then is in
        word_of-slot g (next g (state g h) (hit how)) timer.wheel timer.slot slot.wheel_high slot.slot_high
        ∙ hit_word g front by timer deadline (state g h) has.row (stands h n then) has.due how sure.0 sure.1
    here_at h n then false is =
        let sure = misses h n then is in
        miss_word g v by timer deadline (state g h) sure.not_armed how n place sure.can ∙ then.word

    others_at : (h : List Entry) (n j : ℕ) → IsHistoryAtStep g v place n h → j ≢ place → (b : Bool) → nat_eq n old ≡ b
        → word_of g (next g (state g h) (cond b (hit how) (miss n))) j ≡ word_of g (state g h) j
    others_at h n j then not true is = hit_others g front by timer deadline how (state g h) j not
    others_at h n j then not false is =
        let sure = misses h n then is in
        miss_word g v by timer deadline (state g h) sure.not_armed how n j sure.can

    -- an exchange settles the timer or hands it over, or finds it in another status
    pub settle_acts : Acts g v place (λ n. either (nat_eq n old) new n) (settle_entry g front by timer deadline how)
    settle_acts = record {
      ours = λ n. (may_at n (nat_eq n old)).ours;
      keeps = λ n. (may_at n (nat_eq n old)).keeps;
      known = λ n. (may_at n (nat_eq n old)).known;
      found = λ h n then. found_at h n then (nat_eq n old) refl;
      here = λ h n then. here_at h n then (nat_eq n old) refl;
      others = λ h n j then lt not. others_at h n j then not (nat_eq n old) refl;
    }

    module _ (w : View) (n : ℕ) (finds : FindsNumber g v place n (settle_entry g front by timer deadline how n) w) where
      -- the history at the step
      abbrev before : List Entry
      before = v.front ++ finds.step.between

      then_found : IsHistoryAtStep g v place n before
      then_found = record {
        legal = legal_first g (opening g) before (settle_entry g front by timer deadline how n ∷ [])
            (subst (Legal g) finds.step.grown finds.step.legal);
        later = finds.step.between;
        begins = refl;
        own = finds.step.others;
        word = finds.word;
      }

      -- a miss finds the last timer of the slot not armed, where that is the one that was missed
      last_missed : nat_eq n old ≡ false → is_held v.actors (Wheel timer.wheel) ≡ true → front.last timer.wheel timer.slot ≡ timer.generation
          → status_in n ≢ Some Armed
      last_missed is held last =
          let s : State = state g before in
          let still : s.last timer.wheel timer.slot ≡ timer.generation =
          last_then g v place n before then_found timer.wheel timer.slot held ∙ last in
          let found : status_in n ≡ s.status timer =
          found_last before n then_found ∙ ap (λ m. s.status (timer_at timer.wheel timer.slot m)) still in
          subst (λ x. x ≢ Some Armed) (sym found) (misses before n then_found is).not_armed

      -- a step tells whether the timer was settled or handed over
      pub settle_tells : (b : Bool) → nat_eq n old ≡ b → Settles g v by timer deadline how b w
      settle_tells true is = subst (λ b. Appends g v (cond b (hit how) (miss n)) w) is finds.step
      settle_tells false is =
          missed g v by timer deadline how w n (misses before n then_found is).can (last_missed is)
          (subst (λ b. Appends g v (cond b (hit how) (miss n)) w) is finds.step)

      settled_at : (b : Bool) → nat_eq n old ≡ b → (next g (state g before) (cond b (hit how) (miss n))).status timer ≢ Some Armed
      settled_at true is =
          subst (λ x. x ≢ Some Armed)
          (sym (ap (λ x. status_after timer (has_actor (hit how) (Wheel timer.wheel)) x (hit how).event) (hits before n then_found is).0
          ∙ hit_status g front by timer deadline how (has_actor (hit how) (Wheel timer.wheel))))
          (to_settled how)
      settled_at false is =
          let sure = misses before n then_found is in
          subst (λ x. x ≢ Some Armed) (sym (miss_status g v by timer deadline (state g before) sure.not_armed how n timer sure.can)) sure.not_armed

      -- either way it isn't armed after that
      pub settle_settles : (b : Bool) → nat_eq n old ≡ b → (state g w.front).status timer ≢ Some Armed
      settle_settles b is =
          let e : Entry = cond b (hit how) (miss n) in
          let grown : w.front ≡ before ++ e ∷ [] = subst (λ c. w.front ≡ before ++ (cond c (hit how) (miss n)) ∷ []) is finds.step.grown in
          let moved : state g w.front ≡ next g (state g before) e = ap (state g) grown ∙ state-append g before (e ∷ []) in
          subst (λ (s : State). s.status timer ≢ Some Armed) (sym moved) (settled_at b is)
