use Rattle.std.proofs.Common.{◌<◌, ◌+◌, length, rules, arith, ◌∙◌}
use Rattle.ert_world.specs.Worlds.{world_sched}
use Rattle.ert_world.proofs.Totals.{legal_now, sched_waits, sum_fits, waiting_few}
use Rattle.ert_world.proofs.world.World.waiting.Goals as goal

pub overflow_add-all : goal.overflow_add-all
overflow_add-all c =
    let low : c.loop-sched.sched < c.args.self.now.settings.schedulers = search rules in
    let now = legal_now c.args.self.now c.self.inside c.self.view_is c.self.invariant.sound in
    sum_fits c.loop-sched.all c.len.result (λ w. length (world_sched c.args.self.now w).expired) c.loop-sched.sched c.loop-sched.invariant
    (c.len.ensures ∙ sched_waits c.args.self.now c.self.inside c.loop-sched.sched c.index.result.now c.self.view_is c.self.invariant.sound low c.index.ensures)
    (waiting_few c.args.self.now.settings c.args.self.now.history now.0 now.1 (c.loop-sched.sched + 1) (omega (arith, low)))
