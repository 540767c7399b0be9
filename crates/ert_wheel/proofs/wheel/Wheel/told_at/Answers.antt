use Rattle.std.proofs.Common.{arith}
use Rattle.ert_wheel.proofs.Tellers.{due_tells}
use Rattle.ert_wheel.proofs.wheel.Wheel.told_at.Goals as goal

pub returns-then-is_due_at-clause-tells : goal.returns-then-is_due_at-clause-tells
returns-then-is_due_at-clause-tells g c =
    due_tells c.args.self.now.keys c.args.self.now.stands c.args.self.now.passed c.args.time c.self.inside.teller (c.is_due_at.ensures.0 c.if-is_due_at.true)

pub loop-level-init : goal.loop-level-init
loop-level-init g c = record { above = omega arith; highest = omega arith; none = λ b. b.in_window.above }

pub loop-level-preserved : goal.loop-level-preserved
loop-level-preserved g c = record {
  above = omega arith;
  highest = omega (arith, c.loop-level-test.true);
  none = λ b.
      let apart = c.in_default.ensures.none b in
      let up = c.loop-level.invariant.none b in
      omega (arith, apart, up);
}

pub returns-clause-none : goal.returns-clause-none
returns-clause-none g c = λ b. absurd (omega (arith, c.loop-level.invariant.none b, b.in_window.highest, c.loop-level-test.false))
