use Rattle.std.proofs.Common.{refl}
use Rattle.std.specs.Arc.{arc_value}
use Rattle.ert_world.proofs.{Calls.has_at, Ending.rows_few}
use Rattle.ert_world.proofs.world.World.is_bounded.Goals as goal

pub returns-clause-few : goal.returns-clause-few
returns-clause-few c =
    rows_few c.args.self.now c.self.inside (arc_value c.self.inside.desk) c.args.wheel (has_at refl c.self.view_is c.self.invariant.sound) c.requires
