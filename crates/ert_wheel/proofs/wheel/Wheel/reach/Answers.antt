use Rattle.std.proofs.Common.{◌∙◌, subst, sym, arith}
use Rattle.ert_wheel.proofs.{StandsOn.stay_more, wheel.Wheel.reach.Invariants.Comes}
use Rattle.ert_wheel.proofs.wheel.Wheel.reach.Goals as goal
use Rattle.ert_wheel.specs.Rows.{Held}

pub returns-then-not-come_to-clause-stands : goal.returns-then-not-come_to-clause-stands
returns-then-not-come_to-clause-stands g c =
    let i = c.loop-self.invariant in
    stay_more i.keys c.come_to.ensures.passed i.stands c.come_to.ensures.stands

pub loop-self-preserved : goal.loop-self-preserved
loop-self-preserved g c =
    let i = c.loop-self.invariant in
    let stop = c.next_stop-stop-in-loop-self in
    subst (λ (h : Held _). Comes c.args.self.now h c.args.to stop.result c.args.moves.now c.come_to.new.moves) (sym stop.ensures.same)
    (record {
      told = stop.ensures.stop;
      keys = c.come_to.ensures.keys ∙ i.keys;
      stands = stay_more i.keys c.come_to.ensures.passed i.stands c.come_to.ensures.stands;
      owners = c.come_to.ensures.owners ∙ i.owners;
      values = c.come_to.ensures.values ∙ i.values;
      passed = omega (arith, i.passed, c.come_to.ensures.passed);
      no_further = omega (arith, i.told.near, c.come_to.ensures.no_further);
      fewer = omega (arith, i.fewer, c.come_to.ensures.fewer);
    })
