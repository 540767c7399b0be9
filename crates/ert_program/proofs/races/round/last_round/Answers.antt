use Rattle.std.proofs.Common.{◌<◌, subst}
use Rattle.ert_defs.specs.declared.settings.Settings.{Settings}
use Rattle.ert_program.proofs.Rounds.{so_far_more}
use Rattle.ert_program.proofs.races.round.last_round.Goals as goal

pub loop-sched-preserved : goal.loop-sched-preserved
loop-sched-preserved c =
    so_far_more c.args.world.now c.loop-sched.world c.turn.new.self c.loop-sched.sched c.in_ok-turn.field-0
    c.requires (subst (λ (g : Settings). c.loop-sched.sched < g.schedulers) c.settings.ensures.value c.loop-sched-test.true) c.loop-sched.invariant
    c.in_ok-turn.ensures.call
