use Rattle.std.proofs.Common.{◌≤◌}
use Rattle.ert_interval.specs.{Going.{KeepsSeats, StepsTo}, Calls.Still, Intervals.AreIntervalsKept}
use Rattle.ert_interval.proofs.Passing.{PassesTo}
use Rattle.ert_interval.proofs.intervals.IntervalWorld.go_on_all.Given as goal

abbrev pub invariant-loop-number : goal.invariant-loop-number
invariant-loop-number l = record {
  kept : AreIntervalsKept l.self.world l.self.intervals.items;
  still : Still l.fn.self.world l.self.world;
  stays : KeepsSeats l.fn.self.world l.self.world;
  few : l.armed ≤ l.number;
  steps : StepsTo l.fn.sched l.number l.fn.self.world l.fn.self.intervals.items l.armed l.self.world l.self.intervals.items;
  to : PassesTo l.fn.sched l.number l.self.world l.fn.self.intervals.items l.self.intervals.items l.armed;
}
