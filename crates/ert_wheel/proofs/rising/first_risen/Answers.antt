use Rattle.std.proofs.Common.{◌^◌, ℕ, Option, Some, None, IfSome, subst}
use Rattle.ert_wheel.proofs.Risen.{begins_newest, newest_due, wheel_again}
use Rattle.ert_wheel.proofs.rising.first_risen.Goals as goal
use Rattle.ert_wheel.specs.{Levels.bucket_of_window, Ordering.HasRowDue, Rings.{Place, AreChains, Finds}, Wheels.held_keys}

pub returns-then-is_due-clause-wheel : goal.returns-then-is_due-clause-wheel
returns-then-is_due-clause-wheel g c = λ count w. wheel_again c.if-ordered-next_time.true w

pub returns-clause-wheel : goal.returns-clause-wheel
returns-clause-wheel g c = λ count w.
    begins_newest c.newest.result
    (subst (λ (b : ℕ). (places : ℕ → Option Place) → AreChains c.args.chains.now places → Finds c.args.chains.now places b (2 ^ 64) c.newest.result)
    c.bucket_of_window.ensures.is c.newest.ensures.finds) w

pub returns-clause-due : goal.returns-clause-due
returns-clause-due g c =
    at c.newest.result
    (subst (λ (b : ℕ). (places : ℕ → Option Place) → AreChains c.args.chains.now places → Finds c.args.chains.now places b (2 ^ 64) c.newest.result)
    c.bucket_of_window.ensures.is c.newest.ensures.finds)
  where
    at : (found : Option ℕ)
        → ((places : ℕ → Option Place) → AreChains c.args.chains.now places → Finds c.args.chains.now places (bucket_of_window 0 c.args.next_time) (2 ^ 64) found)
        → IfSome found (HasRowDue (held_keys c.args.chains.now c.args.kept.now.keys) c.args.next_time)
    at None finds = tt
    at (Some slot) finds = newest_due slot finds c.requires.wheel.1
