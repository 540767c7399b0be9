use Rattle.std.proofs.Common.{◌*◌, ◌≤◌}
use Rattle.ert_defs.specs.declared.settings.TheConstants.{MOST_SLOTS}
use Rattle.ert_world.proofs.EndingAll.{EndsWheels}
use Rattle.ert_world.specs.Stepping.{Stays}
use Rattle.ert_world.proofs.world.World.cancel_all.Given as goal

abbrev pub invariant-loop-wheel : goal.invariant-loop-wheel
invariant-loop-wheel l = record {
  ends : EndsWheels l.fn.self l.self l.process l.wheel l.count;
  stays : Stays l.fn.self l.self;
  few : l.count ≤ l.wheel * MOST_SLOTS;
}
