use Rattle.std.proofs.Common.{◌∙◌, arith}
use Rattle.ert_wheel.proofs.StandsOn.{stay_more}
use Rattle.ert_wheel.proofs.wheel.Wheel.come_to.Goals as goal

pub returns-then-is_before-clause-stands : goal.returns-then-is_before-clause-stands
returns-then-is_before-clause-stands g c =
    let i = c.loop-level.invariant in
    stay_more i.keys c.is_before.ensures.passed i.stands c.is_before.ensures.stands

pub loop-level-preserved : goal.loop-level-preserved
loop-level-preserved g c =
    let i = c.loop-level.invariant in
    record {
      keys = c.is_before.ensures.keys ∙ i.keys;
      stands = stay_more i.keys c.is_before.ensures.passed i.stands c.is_before.ensures.stands;
      owners = c.is_before.ensures.owners ∙ i.owners;
      values = c.is_before.ensures.values ∙ i.values;
      passed = omega (arith, i.passed, c.is_before.ensures.passed);
      before = c.is_before.ensures.no_further;
      highest = omega (arith, i.highest);
      fewer = omega (arith, i.fewer, c.is_before.ensures.fewer);
    }

pub returns-clause-stands : goal.returns-clause-stands
returns-clause-stands g c =
    let i = c.loop-level.invariant in
    stay_more i.keys (omega (arith, c.pass_slowly.ensures.passed)) i.stands c.pass_slowly.ensures.stands
