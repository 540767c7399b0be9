use Rattle.std.proofs.Common.{◌+◌, sym, subst, rules}
use Rattle.ert_world.specs.Openings.{AreNew, IsNewWheel}
use Rattle.ert_world.proofs.Opened.{new_more}
use Rattle.ert_world.proofs.opening.open_wheels.Goals as goal

pub loop-wheel-preserved : goal.loop-wheel-preserved
loop-wheel-preserved c = record {
  new = subst (AreNew (IsNewWheel c.args.settings.now) (c.loop-wheel.wheel + 1)) (sym c.push_reserved.ensures.items)
      (new_more (IsNewWheel c.args.settings.now) c.loop-wheel.wheel c.loop-wheel.wheels.items c.in_ok-open.field-0 c.loop-wheel.invariant.new (record { named = c.in_ok-open.ensures.number; stands = c.in_ok-open.ensures.stands }));
  room = search rules;
}
