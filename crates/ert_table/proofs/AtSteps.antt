-- What a pass knew at its front still holds when it steps.

use Rattle.std.proofs.Common.{◌≡◌, ℕ, true, List, [], ◌∷◌, Some, sym, ap, subst, ◌∙◌}
use Rattle.ert_defs.specs.{Actors.has_actor, Legal.IsSlot, States.{State, next, run, state, uses_at}, Timers.{Row, row_of}, Words.word_of_slot, declared.entry.Actor.Actor, declared.entry.Actor.TheVariants.Wheel, declared.entry.Entry.Entry}
use Rattle.ert_defs.specs.{declared.settings.Settings.Settings, declared.timer.TimerRef.TimerRef}
use Rattle.ert_defs.proofs.{ExpiredTimers.row_kept, Runs.{last_stays, look_stays, rows_stay, state-append, uses_stay}}
use Rattle.ert_table.specs.{Acts.IsHistoryAtStep, Held.is_held, Places.slot_place, declared.view.View.View}
use Rattle.ert_table.proofs.WordPlaces.{word_of-slot}

-- a row stands on
row_stands : (g : Settings) (r : TimerRef) (row : Row) (s : State) (m : List Entry) → row_of (s.rows r.wheel) r ≡ Some row
    → row_of ((run g s m).rows r.wheel) r ≡ Some row
row_stands g r row s [] h = h
row_stands g r row s (e ∷ m) h =
    row_stands g r row (next g s e) m
    (row_kept g (s.looked e.by) r.wheel (s.rows r.wheel) row r (has_actor e (Wheel r.wheel)) e.event h)

module _ (g : Settings) (v : View) (i n : ℕ) (h : List Entry) (then : IsHistoryAtStep g v i n h) where
  later_state : state g h ≡ run g (state g v.front) then.later
  later_state = ap (state g) then.begins ∙ state-append g v.front then.later

  -- the last look of an actor that the pass holds
  pub look_then : (a : Actor) → is_held v.actors a ≡ true → (state g h).looked a ≡ (state g v.front).looked a
  look_then a held = ap (λ (s : State). s.looked a) later_state ∙ look_stays g a (state g v.front) then.later (then.own a held)

  -- the last generation of each slot of a wheel that it holds
  pub last_then : (w k : ℕ) → is_held v.actors (Wheel w) ≡ true → (state g h).last w k ≡ (state g v.front).last w k
  last_then w k held = ap (λ (s : State). s.last w k) later_state ∙ last_stays g w k (state g v.front) then.later (then.own (Wheel w) held)

  -- the uses of each slot of such a wheel, and its rows
  pub uses_then : (w k : ℕ) → is_held v.actors (Wheel w) ≡ true → uses_at (state g h) w k ≡ uses_at (state g v.front) w k
  uses_then w k held = ap (λ (s : State). uses_at s w k) later_state ∙ uses_stay g w k (state g v.front) then.later (then.own (Wheel w) held)

  pub rows_then : (w : ℕ) → is_held v.actors (Wheel w) ≡ true → (state g h).rows w ≡ (state g v.front).rows w
  rows_then w held = ap (λ (s : State). s.rows w) later_state ∙ rows_stay g w (state g v.front) then.later (then.own (Wheel w) held)

  -- the row of any timer
  pub row_then : (timer : TimerRef) (row : Row) → row_of ((state g v.front).rows timer.wheel) timer ≡ Some row
      → row_of ((state g h).rows timer.wheel) timer ≡ Some row
  row_then timer row stands =
      subst (λ (s : State). row_of (s.rows timer.wheel) timer ≡ Some row) (sym later_state)
      (row_stands g timer row (state g v.front) then.later stands)

-- the word that a step finds at the place of a slot is that of the slot
pub slot_then : (g : Settings) (v : View) (w k n : ℕ) (h : List Entry) → IsSlot g w k → IsHistoryAtStep g v (slot_place g w k) n h
    → word_of_slot (state g h) w k ≡ n
slot_then g v w k n h slot then = sym (word_of-slot g (state g h) w k slot.wheel_high slot.slot_high) ∙ then.word
