use Rattle.ert_table.specs.Desks.{settings_of, view_of, Belongs}
use Rattle.ert_timers.specs.Sleeping.{ProbesSome}
use Rattle.ert_timers.proofs.part.WheelPart.probe_rows.Given as goal

abbrev pub invariant-loop-slot : goal.invariant-loop-slot
invariant-loop-slot l = record {
  belongs : Belongs l.desk l.pass;
  some : ProbesSome (settings_of l.desk) (view_of l.fn.pass) l.fn.self l.self l.slot l.dropped (view_of l.pass);
}
