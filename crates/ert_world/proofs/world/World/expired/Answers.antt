use Rattle.std.proofs.Common.{◌∙◌}
use Rattle.ert_world.proofs.Totals.{sched_waits}
use Rattle.ert_world.proofs.world.World.expired.Goals as goal

pub returns : goal.returns
returns c =
    c.len.ensures ∙ sched_waits c.args.self.now c.self.inside c.args.sched c.index.result.now c.self.view_is c.self.invariant.sound c.requires c.index.ensures
