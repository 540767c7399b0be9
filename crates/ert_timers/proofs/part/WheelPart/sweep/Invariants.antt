use Rattle.std.proofs.Common.{count_by}
use Rattle.std.specs.Option.{is_some}
use Rattle.ert_table.specs.Desks.{settings_of, view_of, Belongs}
use Rattle.ert_timers.specs.{Sweeping.SweepsSome, Parts.HoldsCaller}
use Rattle.ert_timers.proofs.part.WheelPart.sweep.Given as goal

abbrev pub invariant-loop-row : goal.invariant-loop-row
invariant-loop-row l = record {
  belongs : Belongs l.desk l.pass;
  holds : HoldsCaller (settings_of l.desk) (view_of l.pass) l.by l.self.number;
  call : SweepsSome (settings_of l.desk) (view_of l.initial.pass) l.by l.process l.initial.self l.self (view_of l.pass);
}

abbrev pub decreases-loop-row : goal.decreases-loop-row
decreases-loop-row l = count_by is_some l.self.keys
