use Rattle.std.proofs.Common.{◌≡◌, ◌⊎◌, ◌≤◌, ◌+◌, length}
use Rattle.ert_defs.specs.{States.state, declared.settings.TheConstants.MOST_SLOTS}
use Rattle.ert_world.proofs.Chained.{HasHanded}
use Rattle.ert_world.proofs.chains.deliver.Given as goal

abbrev pub invariant-loop-expired : goal.invariant-loop-expired
invariant-loop-expired g l =
    let s = g.S.SchedSteps in
    record {
      handed : HasHanded s.settings s.history s.mark s.way l.fn.sched l.put l.dropped l.fn.steps l.steps;
      few : (l.put + l.dropped ≡ 0) ⊎ ((l.put + l.dropped) + length ((state (s.settings l.steps) (s.history l.steps)).scheds l.fn.sched).expired ≤ MOST_SLOTS);
      stays : s.stays l.fn.steps l.steps;
    }

abbrev pub decreases-loop-expired : goal.decreases-loop-expired
decreases-loop-expired g l = length ((state (g.S.SchedSteps.settings l.steps) (g.S.SchedSteps.history l.steps)).scheds l.fn.sched).expired
