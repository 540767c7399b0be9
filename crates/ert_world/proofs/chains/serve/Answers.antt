use Rattle.std.proofs.Common.{◌≡◌, Err, rules}
use Rattle.ert_world.proofs.Chained.{answered, unanswered}
use Rattle.ert_world.proofs.chains.serve.Goals as goal

pub returns-in_default-clause-call : goal.returns-in_default-clause-call
returns-in_default-clause-call g c = c.in_default.ensures.call

pub returns-in_err-answer_held-clause-call : goal.returns-in_err-answer_held-clause-call
returns-in_err-answer_held-clause-call g c =
    let s = g.S.SchedSteps in
    let a = c.args.steps.now in
    let b = c.hold.new.self in
    let kept = c.hold.ensures.stays in
    let result : c.from_residual.result ≡ Err c.in_err-answer_held.field-0.0 = search rules in
    rw result (unanswered s.settings s.history s.mark s.way c.args.sched a b c.answer_held.new.self
    c.in-Some.request c.in_err-answer_held.field-0.0 (g.met.S.SchedSteps.same_settings a b kept, g.met.S.SchedSteps.same_mark a b kept)
    c.in-Some.ensures.call c.in_err-answer_held.ensures.call)

pub returns-clause-call : goal.returns-clause-call
returns-clause-call g c =
    let s = g.S.SchedSteps in
    let a = c.args.steps.now in
    let b = c.hold.new.self in
    let kept = c.hold.ensures.stays in
    answered s.settings s.history s.mark s.way c.args.sched a b c.answer_held.new.self
    c.in-Some.request c.in_ok-answer_held.field-0 (g.met.S.SchedSteps.same_settings a b kept, g.met.S.SchedSteps.same_mark a b kept)
    c.in-Some.ensures.call c.in_ok-answer_held.ensures.call
