use Rattle.std.proofs.Common.{arith}
use Rattle.ert_world.proofs.EndingAll.{wheels_more, wheels_none}
use Rattle.ert_world.specs.Stepping.{same, stay}
use Rattle.ert_world.proofs.world.World.cancel_all.Goals as goal

pub loop-wheel-init : goal.loop-wheel-init
loop-wheel-init c = record {
  ends = wheels_none c.args.self.now c.args.process c.is_legal.ensures;
  stays = same c.args.self.now;
  few = omega arith;
}

pub loop-wheel-preserved : goal.loop-wheel-preserved
loop-wheel-preserved c =
    let i = c.loop-wheel.invariant in
    record {
      ends = wheels_more c.args.self.now c.loop-wheel.self c.cancel_on-count.new.self c.args.process c.loop-wheel.wheel c.loop-wheel.count c.cancel_on-count.result i.ends c.cancel_on-count.ensures.call;
      stays = stay c.args.self.now c.loop-wheel.self c.cancel_on-count.new.self i.stays c.cancel_on-count.ensures.stays;
      few = omega (arith, i.few, c.cancel_on-count.ensures.few);
    }
