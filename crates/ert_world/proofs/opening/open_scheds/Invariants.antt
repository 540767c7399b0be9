use Rattle.std.proofs.Common.{◌≤◌}
use Rattle.ert_world.specs.Openings.{AreNew, IsNewSched}
use Rattle.ert_world.proofs.opening.open_scheds.Given as goal

abbrev pub invariant-loop-wheel : goal.invariant-loop-wheel
invariant-loop-wheel l = record {
  new : AreNew IsNewSched l.wheel l.scheds.items;
  room : l.count ≤ l.scheds.cap;
}
