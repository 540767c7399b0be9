use Rattle.ert_world.proofs.Chained.{swept_more}
use Rattle.ert_world.proofs.chains.sweep_all.Goals as goal

pub loop-wheel-preserved : goal.loop-wheel-preserved
loop-wheel-preserved g c =
    let s = g.S.CallerSteps in
    let a = c.args.steps.now in
    let b = c.loop-wheel.steps in
    let d = c.sweep_wheel.new.self in
    let kept = c.loop-wheel.invariant.stays in
    record {
      made = swept_more s.settings s.history s.mark s.way c.args.by a b d c.args.process c.loop-wheel.wheel
          (g.met.S.CallerSteps.same_settings a b kept, g.met.S.CallerSteps.same_mark a b kept) c.loop-wheel.invariant.made c.sweep_wheel.ensures.call;
      exited = c.sweep_wheel.ensures.exited;
      legal = c.sweep_wheel.ensures.legal;
      stays = g.met.S.CallerSteps.stay a b d kept c.sweep_wheel.ensures.stays;
    }
