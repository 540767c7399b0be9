use Rattle.ert_table.specs.Desks.{settings_of, view_of, Belongs}
use Rattle.ert_timers.specs.Sleeping.{DropsNext}
use Rattle.ert_timers.proofs.part.WheelPart.ask_on.Given as goal

abbrev pub invariant-loop : goal.invariant-loop
invariant-loop l = record {
  belongs : Belongs l.desk l.pass;
  some : DropsNext (settings_of l.desk) (view_of l.fn.pass) l.fn.self l.self l.counter (view_of l.pass);
}
