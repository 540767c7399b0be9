-- An exchange of a slot's word takes place as the cancel of a timer and the start of the next one of its slot.

use Rattle.std.proofs.Common.{◌≡◌, ◌≢◌, ℕ, ℤ, ◌<◌, Bool, true, false, cond, nat_eq, List, [], ◌∷◌, ◌++◌, length, Some, None, option_map, refl, sym, ap, subst, ◌∙◌, append_assoc, eqb-true}
use prog.Atomic.{either}
use Rattle.ert_defs.specs.{Actors.{has_actor, same_actor}, Entries.{arm_entry, cancel_entry}, Legal.{CanArm, Legal}, Milliseconds.{natural, down, left, deadline_of}, States.{State, next, state, uses_at}, Timers.{IsNextUse, Row, Uses}}
use Rattle.ert_defs.specs.{Timers.{deadline_told, is_taken, status_after, timer_at}, Words.{timer_word, word_count, word_of}, declared.entry.Actor.TheVariants.{Caller, Wheel}, declared.entry.Entry.Entry, declared.settings.Settings.Settings}
use Rattle.ert_defs.specs.{declared.timer.Start.Start, declared.timer.Status.TheVariants.{Armed, Cancelled}, declared.timer.TimerRef.TimerRef}
use Rattle.ert_defs.proofs.Runs.{legal_more, state-append}
use Rattle.ert_table.specs.{Ranges.IsTimer, Acts.{Acts, ActsAll, IsHistoryAtStep}, Calls.AreOnlyOf, Places.slot_place, Renewals.{MayRenew, renewal}, Settlings.{HasRow, hit_entry, settle_entry}, Takes.MayStep}
use Rattle.ert_table.specs.{declared.carry.Settle.TheVariants.Cancel, declared.view.View.View}
use Rattle.ert_table.proofs.{ArmActs.{arm_here, arm_others}, AtSteps.{look_then, row_then, rows_then, slot_then, uses_then}, Hits.{hit_others, hit_status}, OneStep.grows, SettleActs.settle_acts, SlotFacts.{row_in_range, slots_kept}}
use Rattle.ert_table.proofs.{SlotWords.armed_by_word, WordSteps.cond_same}

module _ (g : Settings) (v : View) (by : ℕ) (timer : TimerRef) (deadline generation : ℕ) (start : Start) (coming : ℕ)
    (may : MayRenew g v by timer generation start) (has : HasRow (state g v.front) timer deadline)
    (due : option_map (deadline_told generation) (deadline_of g start ((state g v.front).looked (Caller by))) ≡ Some coming) where
  abbrev front : State
  front = state g v.front

  abbrev look : ℤ
  look = front.looked (Caller by)

  abbrev place : ℕ
  place = slot_place g timer.wheel timer.slot

  abbrev old : ℕ
  old = timer_word Armed deadline timer.generation

  -- the timer that is started
  abbrev fresh : TimerRef
  fresh = timer_at timer.wheel timer.slot generation

  abbrev hit : Entry
  hit = cancel_entry (Caller by) timer (Some (left g deadline look))

  abbrev miss : Entry
  miss = cancel_entry (Caller by) timer None

  abbrev arm : Entry
  arm = arm_entry by fresh start

  abbrev entries : Bool → List Entry
  entries b = renewal g look by timer deadline generation start b

  may_hit : MayStep g v (hit_entry g front (Caller by) timer deadline Cancel)
  may_hit = record { ours = may.caller; keeps = (may.by_high, refl, may.slot); known = tt }

  -- as an exchange that cancels alone
  acts : Acts g v place (λ n. either (nat_eq n old) (timer_word Cancelled deadline timer.generation) n)
      (settle_entry g front (Caller by) timer deadline Cancel)
  acts = settle_acts g v (Caller by) timer deadline Cancel may_hit has

  module _ (h : List Entry) (n : ℕ) (then : IsHistoryAtStep g v place n h) where
    abbrev s : State
    s = state g h

    -- the history with its entry
    one : (b : Bool) → nat_eq n old ≡ b → Legal g (h ++ (cond b hit miss) ∷ [])
    one b is =
        subst (λ c. Legal g (h ++ (cond c hit miss) ∷ [])) is
        (grows g v place n (settle_entry g front (Caller by) timer deadline Cancel n) h then (acts.ours n) (acts.keeps n) (acts.known n) (acts.found h n then))

    module _ (is : nat_eq n old ≡ true) where
      -- the history with the cancel
      abbrev with_cancel : List Entry
      with_cancel = h ++ hit ∷ []

      abbrev between : State
      between = next g s hit

      moved : state g with_cancel ≡ between
      moved = state-append g h (hit ∷ [])

      fits : IsTimer deadline timer.generation
      fits = row_in_range g h timer deadline then.legal
          (record { row = has.row; stands = row_then g v place n h then timer has.row has.stands; due = has.due })

      -- the timer was armed, and the last of its slot
      was : (s.status timer ≡ Some Armed) × (s.last timer.wheel timer.slot ≡ timer.generation)
      was = armed_by_word s timer deadline n (slots_kept g h then.legal) (slot_then g v timer.wheel timer.slot n h may.slot then) fits (eqb-true n old is)

      settled : between.status timer ≡ Some Cancelled
      settled =
          ap (λ x. status_after timer (has_actor hit (Wheel timer.wheel)) x hit.event) was.0
          ∙ hit_status g front (Caller by) timer deadline Cancel (has_actor hit (Wheel timer.wheel))

      look_is : between.looked (Caller by) ≡ look
      look_is = cond_same (same_actor (Caller by) (Caller by)) (s.looked (Caller by)) ∙ look_then g v place n h then (Caller by) may.caller

      -- so what its caller knew of the next one holds after the cancel, and the slot is free
      can : CanArm g between (Caller by) fresh (deadline_of g start (between.looked (Caller by)))
      can = record {
        free = ap (λ m. is_taken (between.status (timer_at timer.wheel timer.slot m))) was.1 ∙ ap is_taken settled;
        wanted = may.wanted;
        due = ap (deadline_of g start) look_is ∙ may.due;
        next_use = subst (λ l. IsNextUse (uses_at s timer.wheel timer.slot) (natural (down g l)) may.wanted generation) (sym look_is)
            (subst (λ (u : Uses). IsNextUse u (natural (down g look)) may.wanted generation)
            (sym (uses_then g v place n h then timer.wheel timer.slot may.wheel)) may.next_use);
        few = subst (λ (rows : List Row). length rows < 9007199254740992) (sym (rows_then g v place n h then timer.wheel may.wheel)) may.few;
      }

      can_then : CanArm g (state g with_cancel) (Caller by) fresh (deadline_of g start ((state g with_cancel).looked (Caller by)))
      can_then = subst (λ (x : State). CanArm g x (Caller by) fresh (deadline_of g start (x.looked (Caller by)))) (sym moved) can

      due_then : option_map (deadline_told generation) (deadline_of g start ((state g with_cancel).looked (Caller by))) ≡ Some coming
      due_then =
          ap (λ l. option_map (deadline_told generation) (deadline_of g start l)) (ap (λ (x : State). x.looked (Caller by)) moved ∙ look_is) ∙ due

      together : with_cancel ++ arm ∷ [] ≡ h ++ entries true
      together = append_assoc h (hit ∷ []) (arm ∷ [])

      both : Legal g (h ++ entries true)
      both = subst (Legal g) together
          (legal_more g with_cancel arm (one true is) (record { keeps = (may.by_high, refl, may.slot, may.dest); known = can_then; found = tt }))

      -- the state after both entries
      after_both : state g (h ++ entries true) ≡ next g (state g with_cancel) arm
      after_both = ap (state g) (sym together) ∙ state-append g with_cancel (arm ∷ [])

      both_here : word_of g (state g (h ++ entries true)) place ≡ timer_word Armed coming generation
      both_here =
          ap (λ x. word_of g x place) after_both ∙ arm_here g by fresh start coming with_cancel (one true is) can_then due_then may.slot

      both_others : (j : ℕ) → j ≢ place → word_of g (state g (h ++ entries true)) j ≡ word_of g s j
      both_others j not =
          ap (λ x. word_of g x j) after_both
          ∙ (arm_others g by fresh start coming (state g with_cancel) j not
          ∙ (ap (λ x. word_of g x j) moved ∙ hit_others g front (Caller by) timer deadline Cancel s j not))

    legal_at : (b : Bool) → nat_eq n old ≡ b → Legal g (h ++ entries b)
    legal_at true is = both is
    legal_at false is = one false is

    here_at : (b : Bool) → nat_eq n old ≡ b → word_of g (state g (h ++ entries b)) place ≡ either b (timer_word Armed coming generation) n
    here_at true is = both_here is
    here_at false is =
        ap (λ x. word_of g x place) (state-append g h (miss ∷ []))
        ∙ subst (λ b. word_of g (next g s (cond b hit miss)) place ≡ either b (timer_word Cancelled deadline timer.generation) n) is (acts.here h n then)

    others_at : (j : ℕ) → j < word_count g → j ≢ place → (b : Bool) → nat_eq n old ≡ b
        → word_of g (state g (h ++ entries b)) j ≡ word_of g s j
    others_at j lt not true is = both_others is j not
    others_at j lt not false is =
        ap (λ x. word_of g x j) (state-append g h (miss ∷ []))
        ∙ subst (λ b. word_of g (next g s (cond b hit miss)) j ≡ word_of g s j) is (acts.others h n j then lt not)

  ours_at : (b : Bool) → AreOnlyOf v.actors (entries b)
  ours_at true = (may.caller, ((may.caller, may.wheel), tt))
  ours_at false = (may.caller, tt)

  -- the exchange sets the word of its slot alone
  pub renew_acts : ActsAll g v place (λ n. either (nat_eq n old) (timer_word Armed coming generation) n) (λ n. entries (nat_eq n old))
  renew_acts = record {
    ours = λ n. ours_at (nat_eq n old);
    legal = λ h n then. legal_at h n then (nat_eq n old) refl;
    here = λ h n then. here_at h n then (nat_eq n old) refl;
    others = λ h n j then lt not. others_at h n then j lt not (nat_eq n old) refl;
  }
