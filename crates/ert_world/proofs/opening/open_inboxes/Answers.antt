use Rattle.std.proofs.Common.{◌+◌, sym, subst, rules}
use Rattle.ert_world.specs.Openings.{AreNew, IsNewInbox}
use Rattle.ert_world.proofs.Opened.{new_more}
use Rattle.ert_world.proofs.opening.open_inboxes.Goals as goal

pub loop-wheel-preserved : goal.loop-wheel-preserved
loop-wheel-preserved c = record {
  new = subst (AreNew (IsNewInbox) (c.loop-wheel.wheel + 1)) (sym c.push_reserved.ensures.items)
      (new_more (IsNewInbox) c.loop-wheel.wheel c.loop-wheel.inboxes.items c.open.result c.loop-wheel.invariant.new c.open.ensures);
  room = search rules;
}
