use Rattle.std.proofs.Common.{◌≡◌, true}
use Rattle.ert_effects.specs.Chains.{SweepsWheels}
use Rattle.ert_defs.specs.States.{state}
use Rattle.ert_world.proofs.Chained.{Made}
use Rattle.ert_world.proofs.chains.sweep_all.Given as goal

abbrev pub invariant-loop-wheel : goal.invariant-loop-wheel
invariant-loop-wheel g l =
    let s = g.S.CallerSteps in
    record {
      made : Made s.settings s.history s.mark s.way l.fn.by (λ g way. SweepsWheels g way l.fn.by l.fn.process 0 l.wheel) l.fn.steps l.steps;
      exited : (state (s.settings l.steps) (s.history l.steps)).exited l.fn.process ≡ true;
      legal : s.is_legal l.steps;
      stays : s.stays l.fn.steps l.steps;
    }
