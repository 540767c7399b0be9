use Rattle.std.proofs.Common.{◌<◌, ◌+◌, rules, arith, ◌∙◌}
use Rattle.ert_laws.specs.Counts.{deliveries}
use Rattle.ert_world.proofs.Totals.{legal_now, mail_delivered, sum_fits, delivered_few}
use Rattle.ert_world.proofs.world.World.delivered.Goals as goal

pub overflow_add-all : goal.overflow_add-all
overflow_add-all c =
    let low : c.loop-process.process < c.args.self.now.settings.processes = search rules in
    let now = legal_now c.args.self.now c.self.inside c.self.view_is c.self.invariant.sound in
    sum_fits c.loop-process.all c.delivered-all.result (λ p. deliveries p c.args.self.now.history) c.loop-process.process c.loop-process.invariant
    (c.delivered-all.ensures ∙ mail_delivered c.args.self.now c.self.inside c.loop-process.process c.index.result.now c.self.view_is c.self.invariant.sound low c.index.ensures)
    (delivered_few c.args.self.now.settings c.args.self.now.history now.0 now.1 (c.loop-process.process + 1) (omega (arith, low)))
