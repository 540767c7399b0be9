use Rattle.std.proofs.Common.{◌≡◌, Ok, Err, subst, arith, rules}
use Rattle.ert_effects.specs.Chains.{Serves, ServesMany}
use Rattle.ert_world.proofs.Chained.{Made, none_served, served_more, served_all, unserved}
use Rattle.ert_world.proofs.chains.serve_all.Goals as goal

pub loop-served-init : goal.loop-served-init
loop-served-init g c =
    let s = g.S.SchedSteps in
    record { made = none_served s.settings s.history s.mark s.way c.args.sched c.args.steps.now; legal = λ some. absurd (omega (arith, some)); stays = g.met.S.SchedSteps.same c.args.steps.now }

pub serve-requires : goal.serve-requires
serve-requires g c = g.met.S.SchedSteps.acts_on c.args.steps.now c.loop-served.steps c.args.sched c.loop-served.invariant.stays c.requires

pub returns-in_err-serve-clause-call : goal.returns-in_err-serve-clause-call
returns-in_err-serve-clause-call g c =
    let s = g.S.SchedSteps in
    let a = c.args.steps.now in
    let b = c.loop-served.steps in
    let kept = c.loop-served.invariant.stays in
    let result : c.from_residual.result ≡ Err c.in_err-serve.field-0.0 = search rules in
    rw result (unserved s.settings s.history s.mark s.way c.args.sched a b c.serve.new.steps c.loop-served.served c.in_err-serve.field-0.0
    c.loop-served-test.true (g.met.S.SchedSteps.same_settings a b kept, g.met.S.SchedSteps.same_mark a b kept)
    c.loop-served.invariant.made c.in_err-serve.ensures.call)

pub returns-in_err-serve-clause-stays : goal.returns-in_err-serve-clause-stays
returns-in_err-serve-clause-stays g c =
    g.met.S.SchedSteps.stay c.args.steps.now c.loop-served.steps c.serve.new.steps c.loop-served.invariant.stays c.serve.ensures.stays

pub returns-then-not-branch-clause-call : goal.returns-then-not-branch-clause-call
returns-then-not-branch-clause-call g c =
    let s = g.S.SchedSteps in
    let a = c.args.steps.now in
    let b = c.loop-served.steps in
    let d = c.serve.new.steps in
    let kept = c.loop-served.invariant.stays in
    served_all s.settings s.history s.mark s.way c.args.sched a b d c.loop-served.served c.loop-served-test.true
    (g.met.S.SchedSteps.same_settings a b kept, g.met.S.SchedSteps.same_mark a b kept) c.loop-served.invariant.made
    (subst (λ more. Made s.settings s.history s.mark s.way c.args.sched (λ g way. Serves g way c.args.sched (Ok more)) b d) c.if-not-branch.true c.in_ok-serve.ensures.call)

pub returns-then-not-branch-clause-stays : goal.returns-then-not-branch-clause-stays
returns-then-not-branch-clause-stays g c =
    g.met.S.SchedSteps.stay c.args.steps.now c.loop-served.steps c.serve.new.steps c.loop-served.invariant.stays c.serve.ensures.stays

pub loop-served-preserved : goal.loop-served-preserved
loop-served-preserved g c =
    let s = g.S.SchedSteps in
    let a = c.args.steps.now in
    let b = c.loop-served.steps in
    let d = c.serve.new.steps in
    let kept = c.loop-served.invariant.stays in
    record {
      made = served_more s.settings s.history s.mark s.way c.args.sched a b d c.loop-served.served
          (g.met.S.SchedSteps.same_settings a b kept, g.met.S.SchedSteps.same_mark a b kept) c.loop-served.invariant.made
          (subst (λ more. Made s.settings s.history s.mark s.way c.args.sched (λ g way. Serves g way c.args.sched (Ok more)) b d) c.if-not-branch.false c.in_ok-serve.ensures.call);
      legal = λ some. c.serve.ensures.legal;
      stays = g.met.S.SchedSteps.stay a b d kept c.serve.ensures.stays;
    }

pub returns-clause-call : goal.returns-clause-call
returns-clause-call g c =
    let s = g.S.SchedSteps in
    let a = c.args.steps.now in
    let all : c.loop-served.served ≡ 64 = omega (arith, c.loop-served-test.false, c.loop-served.auto.served-end) in
    let many = c.loop-served.invariant.made in
    record {
      piece = many.piece;
      grown = many.grown;
      made = (
        omega arith,
        subst (λ n. ServesMany (s.settings a) (s.way (s.settings a) (s.mark a) c.args.sched) c.args.sched n (s.history a) many.piece) all many.made,
      );
    }
