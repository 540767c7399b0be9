use Rattle.std.proofs.Common.{◌≤◌}
use Rattle.ert_world.specs.Openings.{AreNew, IsNewWheel}
use Rattle.ert_world.proofs.opening.open_wheels.Given as goal

abbrev pub invariant-loop-wheel : goal.invariant-loop-wheel
invariant-loop-wheel l = record {
  new : AreNew (IsNewWheel l.settings) l.wheel l.wheels.items;
  room : l.settings.schedulers ≤ l.wheels.cap;
}
