use Rattle.ert_interval.specs.Intervals.{AreIntervalsKept}
use Rattle.ert_tests.proofs.tests.intervals.go.Given as goal

abbrev pub invariant-loop-at : goal.invariant-loop-at
invariant-loop-at g l = AreIntervalsKept l.service.world l.service.intervals.items
