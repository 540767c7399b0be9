use Rattle.ert_table.specs.Desks.{settings_of, view_of, Belongs}
use Rattle.ert_timers.specs.{Expiring.ExpiresSome, Parts.HoldsSched}
use Rattle.ert_timers.proofs.part.WheelPart.expire_all.Given as goal
use Rattle.ert_wheel.specs.Rows.{rows_told}

abbrev pub invariant-loop-row : goal.invariant-loop-row
invariant-loop-row l = record {
  belongs : Belongs l.desk l.pass;
  holds : HoldsSched (view_of l.pass) l.self.number;
  call : ExpiresSome (settings_of l.desk) (view_of l.initial.pass) l.initial.self l.self l.to (rows_told l.initial.self.keys l.due) l.row-index l.initial.expired l.expired (view_of l.pass);
}
