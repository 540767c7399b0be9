use Rattle.std.proofs.Common.{refl, ◌∙◌}
use Rattle.ert_world.proofs.{Calls.has_at, Totals.wheel_rows, Waiting.rows_in}
use Rattle.ert_world.proofs.world.World.held.Goals as goal

pub returns-clause-rows : goal.returns-clause-rows
returns-clause-rows c =
    rows_in c.args.self.now c.self.inside _ c.args.sched c.index.result.now c.tally.result.rows
    (has_at refl c.self.view_is c.self.invariant.sound) c.requires c.index.ensures c.tally.ensures.rows

pub returns-clause-armed : goal.returns-clause-armed
returns-clause-armed c = λ alone.
    c.tally.ensures.rows ∙ wheel_rows c.args.self.now c.self.inside c.args.sched c.index.result.now c.self.view_is c.self.invariant.sound c.requires c.index.ensures alone
