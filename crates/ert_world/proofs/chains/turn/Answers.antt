use Rattle.std.proofs.Common.{◌≡◌, Err, rules}
use Rattle.ert_world.proofs.Chained.{turned, turn_unserved, turn_unadvanced, turn_undelivered}
use Rattle.ert_world.proofs.chains.turn.Goals as goal

pub returns-in_err-served-clause-call : goal.returns-in_err-served-clause-call
returns-in_err-served-clause-call g c =
    let s = g.S.SchedSteps in
    let result : c.from_residual.result ≡ Err c.in_err-served.field-0.0 = search rules in
    rw result (turn_unserved s.settings s.history s.mark s.way c.args.sched c.args.steps.now c.serve_all.new.steps
    c.in_err-served.field-0.0 c.in_err-served.ensures.call)

pub advance_wheel-requires : goal.advance_wheel-requires
advance_wheel-requires g c = g.met.S.SchedSteps.acts_on c.args.steps.now c.serve_all.new.steps c.args.sched c.serve_all.ensures.stays c.requires

pub returns-in_err-to-clause-call : goal.returns-in_err-to-clause-call
returns-in_err-to-clause-call g c =
    let s = g.S.SchedSteps in
    let a = c.args.steps.now in
    let b = c.serve_all.new.steps in
    let kept = c.serve_all.ensures.stays in
    let result : c.from_residual-in_err-to.result ≡ Err c.in_err-to.field-0.0 = search rules in
    rw result (turn_unadvanced s.settings s.history s.mark s.way c.args.sched a b c.advance_wheel.new.self
    c.in_ok-served.served c.in_err-to.field-0.0 (g.met.S.SchedSteps.same_settings a b kept, g.met.S.SchedSteps.same_mark a b kept)
    c.in_ok-served.ensures.call c.in_err-to.ensures.call)

pub returns-in_err-to-clause-stays : goal.returns-in_err-to-clause-stays
returns-in_err-to-clause-stays g c =
    g.met.S.SchedSteps.stay c.args.steps.now c.serve_all.new.steps c.advance_wheel.new.self c.serve_all.ensures.stays c.advance_wheel.ensures.stays

pub deliver-requires : goal.deliver-requires
deliver-requires g c =
    let a = c.args.steps.now in
    let b = c.serve_all.new.steps in
    g.met.S.SchedSteps.acts_on b c.advance_wheel.new.self c.args.sched c.advance_wheel.ensures.stays
    (g.met.S.SchedSteps.acts_on a b c.args.sched c.serve_all.ensures.stays c.requires)

pub returns-in_err-put-clause-call : goal.returns-in_err-put-clause-call
returns-in_err-put-clause-call g c =
    let s = g.S.SchedSteps in
    let a = c.args.steps.now in
    let b = c.serve_all.new.steps in
    let d = c.advance_wheel.new.self in
    let result : c.from_residual-in_err-put.result ≡ Err c.in_err-put.field-0.0 = search rules in
    rw result (turn_undelivered s.settings s.history s.mark s.way c.args.sched a b d c.deliver.new.steps
    c.in_ok-served.served (c.in_ok-to.to, c.in_ok-to.expired) c.in_err-put.field-0.0
    (g.met.S.SchedSteps.same_settings a b c.serve_all.ensures.stays, g.met.S.SchedSteps.same_mark a b c.serve_all.ensures.stays)
    (g.met.S.SchedSteps.same_settings b d c.advance_wheel.ensures.stays, g.met.S.SchedSteps.same_mark b d c.advance_wheel.ensures.stays)
    c.in_ok-served.ensures.call c.in_ok-to.ensures.call c.in_err-put.ensures.call)

pub returns-in_err-put-clause-stays : goal.returns-in_err-put-clause-stays
returns-in_err-put-clause-stays g c =
    let a = c.args.steps.now in
    let d = c.advance_wheel.new.self in
    g.met.S.SchedSteps.stay a d c.deliver.new.steps
    (g.met.S.SchedSteps.stay a c.serve_all.new.steps d c.serve_all.ensures.stays c.advance_wheel.ensures.stays) c.deliver.ensures.stays

pub returns-clause-call : goal.returns-clause-call
returns-clause-call g c =
    let s = g.S.SchedSteps in
    let a = c.args.steps.now in
    let b = c.serve_all.new.steps in
    let d = c.advance_wheel.new.self in
    turned s.settings s.history s.mark s.way c.args.sched a b d c.deliver.new.steps
    (record { served = c.in_ok-served.served; to = c.in_ok-to.to; expired = c.in_ok-to.expired; put = c.in_ok-put.put; dropped = c.in_ok-put.dropped })
    (g.met.S.SchedSteps.same_settings a b c.serve_all.ensures.stays, g.met.S.SchedSteps.same_mark a b c.serve_all.ensures.stays)
    (g.met.S.SchedSteps.same_settings b d c.advance_wheel.ensures.stays, g.met.S.SchedSteps.same_mark b d c.advance_wheel.ensures.stays)
    c.in_ok-served.ensures.call c.in_ok-to.ensures.call c.in_ok-put.ensures.call

pub returns-clause-passed : goal.returns-clause-passed
returns-clause-passed g c =
    g.met.S.SchedSteps.still_passed c.advance_wheel.new.self c.deliver.new.steps c.args.sched c.in_ok-to.to c.deliver.ensures.stays c.in_ok-to.ensures.passed

pub returns-clause-stays : goal.returns-clause-stays
returns-clause-stays g c =
    let a = c.args.steps.now in
    let d = c.advance_wheel.new.self in
    g.met.S.SchedSteps.stay a d c.deliver.new.steps
    (g.met.S.SchedSteps.stay a c.serve_all.new.steps d c.serve_all.ensures.stays c.advance_wheel.ensures.stays) c.deliver.ensures.stays
