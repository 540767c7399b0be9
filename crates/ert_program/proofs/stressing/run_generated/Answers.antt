use Rattle.std.proofs.Common.{◌≡◌, List, [], subst}
use Rattle.ert_program.specs.{Generated.generated, Stresses.HasRun}
use Rattle.ert_ops.specs.declared.op.Op.{Op}
use Rattle.ert_scenario.specs.Scenarios.{Plan, plan_of}
use Rattle.ert_script.specs.Written.{RunsAll}
use Rattle.ert_program.proofs.Made.{has_run}
use Rattle.ert_program.proofs.stressing.run_generated.Goals as goal

pub returns : goal.returns
returns c =
    let plan : Plan = plan_of c.in_ok-scenario.scenario in
    let same : plan ≡ generated c.args.seed c.args.n = c.in_ok-scenario.ensures in
    subst (λ (p : Plan). HasRun p c.do_ops.new.world) same
    (has_run plan c.in_ok-world.world c.do_ops.new.world c.do_ops.new.labels c.in_ok-world.ensures
    (subst (λ (ops : List Op). RunsAll c.in_ok-world.world [] ops c.do_ops.new.world c.do_ops.new.labels) c.deref.ensures.value
    (rw c.new.ensures at c.in_ok-do_ops.ensures.ok)))
