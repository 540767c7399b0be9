-- What a judge knows of a wheel by its own list is what the model's state says.

use Rattle.std.proofs.Common.{◌≡◌, ℕ, refl, Bool}
use Rattle.std.specs.Prelude.{◌↔◌, IsTrue}
use Rattle.ert_defs.specs.{Clocks.Clock, Legal.IsNext, Milliseconds.down, declared.entry.Actor.Actor, declared.timer.TimerRef.TimerRef}
use Rattle.ert_judge.specs.{Parts.{looks_in, look_of, status_at}, Shown.{shown, OwnTimers}, Wheels.{timers_at, status_among, AreShown, IsFirstDue}, declared.judge.Judge.Judge}
use Rattle.ert_judge.proofs.{WheelLaws.own_shown, WheelTests.first_is_next}

-- each timer of a wheel has its own status in the state
pub shown_all : (j : Judge) (w : ℕ) → OwnTimers j → AreShown (status_at j.timers) (timers_at j.timers w)
shown_all j w own =
    own_shown w (timers_at j.timers w) (status_at j.timers) (λ r same. status_where j r w same) (own w)
  where
    status_where : (j : Judge) (r : TimerRef) (w : ℕ) → r.wheel ≡ w → status_at j.timers r ≡ status_among (timers_at j.timers w) r
    status_where j r w same = rw same refl

-- a timer is due and the first of its wheel
pub next_known : (c : Clock) (j : Judge) (by : Actor) (timer : TimerRef) (b : Bool) → OwnTimers j
    → IsTrue b ↔ IsFirstDue (timers_at j.timers timer.wheel) timer (down j.settings (look_of (looks_in j.looks) by))
    → IsTrue b ↔ IsNext j.settings (shown c j) by timer
next_known c j by timer b own is =
    let same = first_is_next j.settings (shown c j) by timer (timers_at j.timers timer.wheel)
    (down j.settings (look_of (looks_in j.looks) by)) (shown_all j timer.wheel own) refl refl in
    ((λ yes. same.0 (is.0 yes)), (λ next. is.1 (same.1 next)))
