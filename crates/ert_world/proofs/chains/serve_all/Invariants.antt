use Rattle.ert_effects.specs.Chains.{ServesMany}
use Rattle.std.proofs.Common.{◌<◌}
use Rattle.ert_world.proofs.Chained.{Made}
use Rattle.ert_world.proofs.chains.serve_all.Given as goal

abbrev pub invariant-loop-served : goal.invariant-loop-served
invariant-loop-served g l =
    let s = g.S.SchedSteps in
    record {
      made : Made s.settings s.history s.mark s.way l.fn.sched (λ g way. ServesMany g way l.fn.sched l.served) l.fn.steps l.steps;
      legal : 0 < l.served → s.is_legal l.steps;
      stays : s.stays l.fn.steps l.steps;
    }
