use Rattle.std.proofs.Common.{◌≤◌}
use Rattle.ert_world.specs.Openings.{AreNew, IsNewInbox}
use Rattle.ert_world.proofs.opening.open_inboxes.Given as goal

abbrev pub invariant-loop-wheel : goal.invariant-loop-wheel
invariant-loop-wheel l = record {
  new : AreNew IsNewInbox l.wheel l.inboxes.items;
  room : l.count ≤ l.inboxes.cap;
}
