use Rattle.std.proofs.Common.{◌≡◌}
use Rattle.ert_table.specs.Desks.{settings_of, view_of, front_of, Belongs}
use Rattle.ert_timers.specs.Dropping.{DropsRows}
use Rattle.ert_timers.proofs.part.WheelPart.drop_settled.Given as goal

abbrev pub invariant-loop-slot : goal.invariant-loop-slot
invariant-loop-slot l = record {
  belongs : Belongs l.desk l.pass;
  same : view_of l.pass ≡ view_of l.initial.pass;
  drops : DropsRows (settings_of l.desk) (front_of l.initial.pass) l.initial.self l.self l.slot;
}
