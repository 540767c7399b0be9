use Rattle.std.proofs.Common.{◌-◌}
use Rattle.ert_wheel.proofs.MarkBits.{IsPastWords}
use Rattle.ert_wheel.proofs.marks.Marks.next_used.Given as goal

abbrev pub invariant-loop-at : goal.invariant-loop-at
invariant-loop-at l = IsPastWords l.self-inside.words l.from l.at

abbrev pub decreases-loop-at : goal.decreases-loop-at
decreases-loop-at l = 67 - l.at
