use Rattle.std.proofs.Common.{refl, ◌∙◌}
use Rattle.ert_world.proofs.{Calls.has_at, Waiting.mail_waits}
use Rattle.ert_world.proofs.world.World.mail_count.Goals as goal

pub returns : goal.returns
returns c =
    c.waiting.ensures ∙ mail_waits c.args.self.now c.self.inside _ c.args.process c.index.result.now (has_at refl c.self.view_is c.self.invariant.sound) c.requires c.index.ensures
