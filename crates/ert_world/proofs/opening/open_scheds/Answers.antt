use Rattle.std.proofs.Common.{◌+◌, sym, subst, rules}
use Rattle.ert_world.specs.Openings.{AreNew, IsNewSched}
use Rattle.ert_world.proofs.Opened.{new_more}
use Rattle.ert_world.proofs.opening.open_scheds.Goals as goal

pub loop-wheel-preserved : goal.loop-wheel-preserved
loop-wheel-preserved c = record {
  new = subst (AreNew (IsNewSched) (c.loop-wheel.wheel + 1)) (sym c.push_reserved.ensures.items)
      (new_more (IsNewSched) c.loop-wheel.wheel c.loop-wheel.scheds.items c.open.result c.loop-wheel.invariant.new (record { named = c.open.ensures.number; hand = c.open.ensures.hand; expired = c.open.ensures.expired }));
  room = search rules;
}
