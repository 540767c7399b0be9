use Rattle.ert_wheel.proofs.{Least.IsPassed, Steps.left_older}
use Rattle.ert_wheel.proofs.walk.least_in.Given as goal
use Rattle.ert_wheel.specs.{Rings.{Place, AreChains}, Wheels.{held_keys, places}, declared.row.Key.Key, declared.row.TheConstants.NEVER}

abbrev pub invariant-loop-next : goal.invariant-loop-next
invariant-loop-next g l =
    (spot : Key → Place) → AreChains l.chains (places spot (held_keys l.chains l.kept.keys))
    → IsPassed (held_keys l.chains l.kept.keys) spot l.bucket NEVER l.next l.least.time

abbrev pub decreases-loop-next : goal.decreases-loop-next
decreases-loop-next g l = left_older l.chains l.next
