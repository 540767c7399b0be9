-- An exchange that finds the word that it expects settles its timer or hands it over.

use Rattle.std.proofs.Common.{◌≡◌, ◌≢◌, ⊎_elim, ℕ, Bool, true, false, Option, Some, refl, sym, ap, ◌∙◌}
use Rattle.ert_defs.specs.{Actors.has_actor, Legal.{IsSlot, Keeps, Found, left_by}, Milliseconds.left, States.{State, next}, Timers.{Row, row_of, same_timer, status_after, is_taken, timer_at}, Words.{word_of, timer_word, slot_word}}
use Rattle.ert_defs.specs.{Words.word_of_slot, declared.entry.Actor.Actor, declared.entry.Actor.TheVariants.Wheel, declared.entry.Entry.Entry, declared.settings.Settings.Settings, declared.timer.Status.Status}
use Rattle.ert_defs.specs.{declared.timer.Status.TheVariants.Armed, declared.timer.TimerRef.TimerRef}
use Rattle.ert_defs.proofs.{ExpiredTimers.same_timer_self, Slots.same_timer-true}
use Rattle.ert_table.specs.{Places.slot_place, Settlings.{status_from, status_to, hit_entry}, declared.carry.Settle.Settle, declared.carry.Settle.TheVariants.{Cancel, Expire, Orphan}}
use Rattle.ert_table.proofs.{Holders.tells, WordSteps.{is_calm, calm_last, calm_rows, word_calm}}

-- each timer of another place is another timer
pub other_timer : (g : Settings) (timer : TimerRef) (j w k m : ℕ) → j ≢ slot_place g timer.wheel timer.slot → j ≡ slot_place g w k
    → same_timer timer (timer_at w k m) ≡ false
other_timer g timer j w k m not is =
    ⊎_elim
    (λ same. absurd (not (is ∙ ap (λ (t : TimerRef). slot_place g t.wheel t.slot) (sym (same_timer-true timer (timer_at w k m) same)))))
    (λ differs. differs)
    (tells (same_timer timer (timer_at w k m)))

pub from_taken : (how : Settle) → is_taken (Some (status_from how)) ≡ true
from_taken Cancel = refl
from_taken _ = refl

-- a timer that was settled isn't armed
pub to_settled : (how : Settle) → Some (status_to how) ≢ Some Armed
to_settled Cancel = λ is. cc
to_settled _ = λ is. cc

module _ (g : Settings) (s0 : State) (by : Actor) (timer : TimerRef) (deadline : ℕ) where
  abbrev hit : Settle → Entry
  hit how = hit_entry g s0 by timer deadline how

  pub hit_by : (how : Settle) → (hit how).by ≡ by
  hit_by Cancel = refl
  hit_by _ = refl

  -- its slot is in range
  pub hit_slot : (how : Settle) → Keeps g (hit how).by (hit how).with (hit how).event → IsSlot g timer.wheel timer.slot
  hit_slot Cancel h = h.2
  hit_slot _ h = h.2

  pub hit_calm : (how : Settle) → is_calm (hit how).event ≡ true
  hit_calm Cancel = refl
  hit_calm _ = refl

  -- the timer gets its new status
  pub hit_status : (how : Settle) (b : Bool) → status_after timer b (Some (status_from how)) (hit how).event ≡ Some (status_to how)
  hit_status Cancel b = rw (same_timer_self timer) refl
  hit_status _ b = rw (same_timer_self timer) refl

  -- another keeps its own
  hit_other : (how : Settle) (r : TimerRef) (b : Bool) (x : Option Status) → same_timer timer r ≡ false
      → status_after r b x (hit how).event ≡ x
  hit_other Cancel r b x not = rw not refl
  hit_other _ r b x not = rw not refl

  -- all other words stay as they are
  pub hit_others : (how : Settle) (s : State) (j : ℕ) → j ≢ slot_place g timer.wheel timer.slot
      → word_of g (next g s (hit how)) j ≡ word_of g s j
  hit_others how s j not =
      word_calm g s (hit how) j (hit_calm how)
      (λ w k m is. hit_other how (timer_at w k m) (has_actor (hit how) (Wheel w)) (s.status (timer_at w k m)) (other_timer g timer j w k m not is))

  module _ (s : State) (row : Row) (stands : row_of (s.rows timer.wheel) timer ≡ Some row) (due : row.deadline ≡ deadline) where
    -- a hit finds what it says
    pub hit_found : (how : Settle) → s.status timer ≡ Some (status_from how) → s.looked by ≡ s0.looked by
        → Found g s (hit how).by (hit how).event
    hit_found Cancel status look =
        sym (ap (λ x. left_by g (s.looked by) x (row_of (s.rows timer.wheel) timer)) status
        ∙ (ap (λ x. left_by g (s.looked by) (Some Armed) x) stands
        ∙ (ap (λ d. Some (left g d (s.looked by))) due ∙ ap (λ x. Some (left g deadline x)) look)))
    hit_found Expire status look = status
    hit_found Orphan status look = status
    hit_found _ status look = tt

    -- the word of the slot after it
    pub hit_word : (how : Settle) → s.status timer ≡ Some (status_from how) → s.last timer.wheel timer.slot ≡ timer.generation
        → word_of_slot (next g s (hit how)) timer.wheel timer.slot ≡ timer_word (status_to how) deadline timer.generation
    hit_word how status last =
        let e : Entry = hit how in
        let s' : State = next g s e in
        let w : ℕ = timer.wheel in
        let k : ℕ = timer.slot in
        let last' : s'.last w k ≡ timer.generation = calm_last g s e w k (hit_calm how) ∙ last in
        let status' : s'.status timer ≡ Some (status_to how) =
        ap (λ x. status_after timer (has_actor e (Wheel w)) x e.event) status ∙ hit_status how (has_actor e (Wheel w)) in
        let row' : row_of (s'.rows w) timer ≡ Some row = ap (λ rows. row_of rows timer) (calm_rows g s e w (hit_calm how)) ∙ stands in
        ap (λ m. slot_word (s'.status (timer_at w k m)) (row_of (s'.rows w) (timer_at w k m)) m) last'
        ∙ (ap (λ x. slot_word x (row_of (s'.rows w) timer) timer.generation) status'
        ∙ (ap (λ x. slot_word (Some (status_to how)) x timer.generation) row'
        ∙ ap (λ d. timer_word (status_to how) d timer.generation) due))
