use Rattle.ert_wheel.proofs.{Steps.left_newer, Climbing.IsClimbed}
use Rattle.ert_wheel.proofs.oldest.oldest_due.Given as goal
use Rattle.ert_wheel.specs.{Rings.{Place, AreChains}, Wheels.{held_keys, places}, declared.row.Key.Key}

abbrev pub invariant-loop-next : goal.invariant-loop-next
invariant-loop-next g l =
    (spot : Key → Place) → AreChains l.chains (places spot (held_keys l.chains l.kept.keys))
    → IsClimbed (held_keys l.chains l.kept.keys) spot l.bucket l.to l.next

abbrev pub decreases-loop-next : goal.decreases-loop-next
decreases-loop-next g l = left_newer l.chains l.next
