use Rattle.ert_world.proofs.Chained.{exited}
use Rattle.ert_world.proofs.chains.exit.Goals as goal

pub returns-clause-call : goal.returns-clause-call
returns-clause-call g c =
    let s = g.S.CallerSteps in
    let a = c.args.steps.now in
    let b = c.mark_exited.new.self in
    let kept = c.mark_exited.ensures.stays in
    exited s.settings s.history s.mark s.way c.args.by a b c.sweep_all.new.steps c.args.process
    (g.met.S.CallerSteps.same_settings a b kept, g.met.S.CallerSteps.same_mark a b kept) c.if-not-mark_exited.ensures.call c.sweep_all.ensures.call
