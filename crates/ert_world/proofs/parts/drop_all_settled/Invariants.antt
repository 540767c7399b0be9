use Rattle.std.proofs.Common.{◌≡◌}
use Rattle.ert_table.specs.Desks.{settings_of, view_of, front_of, Belongs}
use Rattle.ert_world.proofs.Dropping.{HaveDropped}
use Rattle.ert_world.proofs.parts.drop_all_settled.Given as goal

abbrev pub invariant-loop-wheel : goal.invariant-loop-wheel
invariant-loop-wheel l = record {
  belongs : Belongs l.desk l.pass;
  same : view_of l.pass ≡ view_of l.initial.pass;
  dropped : HaveDropped (settings_of l.desk) (front_of l.initial.pass) l.initial.wheels.items l.wheels.items l.wheel;
}
