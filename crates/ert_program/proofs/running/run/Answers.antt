use Rattle.std.proofs.Common.{◌≤◌, false, length, subst, sym, arith}
use Rattle.ert_io.specs.Reads.{Input, input_of}
use Rattle.ert_ops.specs.Labels.{AreOps}
use Rattle.ert_scenario.specs.{Acceptance.IsRunnable, Scenarios.plan_of}
use Rattle.ert_program.specs.{RefusedInputs.RefusalEnds, Runs.{RunWrites, RunEnds}, Streams.{Output, output_of}, declared.ending.Ended.Ended}
use Rattle.ert_program.proofs.{Ends.{possible, unread_ends, unread_refusal, ran_ends, ran_refusal}, Transcripts.{run_writes, wrote_all, wrote_some, run_is_of}}
use Rattle.ert_program.proofs.running.run.Goals as goal

pub run_scenario-requires-clause-checked : goal.run_scenario-requires-clause-checked
run_scenario-requires-clause-checked g c = c.scenarios_are_valid.ensures.settings false _ (plan_of c.in-Ok.scenario) c.in-Ok.ensures.ok.is

pub run_scenario-requires-clause-ranges : goal.run_scenario-requires-clause-ranges
run_scenario-requires-clause-ranges g c = c.scenarios_are_valid.ensures.ops false _ (plan_of c.in-Ok.scenario) c.in-Ok.ensures.ok.is

pub run_scenario-requires-clause-labels : goal.run_scenario-requires-clause-labels
run_scenario-requires-clause-labels g c = c.scenarios_are_valid.ensures.labels false _ (plan_of c.in-Ok.scenario) c.in-Ok.ensures.ok.is

pub run_scenario-requires-clause-looks : goal.run_scenario-requires-clause-looks
run_scenario-requires-clause-looks g c =
    let are = c.scenarios_are_valid.ensures.labels false _ (plan_of c.in-Ok.scenario) c.in-Ok.ensures.ok.is in
    omega (arith, are.few, c.scenarios_are_valid.ensures.looks false _ (plan_of c.in-Ok.scenario) c.in-Ok.ensures.ok.is)

pub run_scenario-requires-clause-fits : goal.run_scenario-requires-clause-fits
run_scenario-requires-clause-fits g c =
    let read = c.in-Ok.ensures.ok in
    let plan = plan_of c.in-Ok.scenario in
    rw c.in-Ok.ensures.unwritten
    (c.requires.fits read.bytes _ (possible _ _ read.bytes read.takes)
    (run_writes read.bytes plan (c.scenarios_are_accepted.ensures.accepted read.bytes plan read.is)))

pub returns-in-Ok-clause-ends : goal.returns-in-Ok-clause-ends
returns-in-Ok-clause-ends g c =
    let i : Input = input_of g.I.Source.given g.I.Source.ended g.I.Source.left g.I.Source.faults c.args.input.now in
    let j : Input = input_of g.I.Source.given g.I.Source.ended g.I.Source.left g.I.Source.faults c.read_input.new.input in
    let o : Output = output_of g.O.Sink.taken g.O.Sink.room g.O.Sink.faults c.args.output.now in
    let p : Output = output_of g.O.Sink.taken g.O.Sink.room g.O.Sink.faults c.run_scenario.new.output in
    let plan = plan_of c.in-Ok.scenario in
    let read = c.in-Ok.ensures.ok in
    let is : IsRunnable read.bytes plan.settings plan.ops = c.scenarios_are_accepted.ensures.accepted read.bytes plan read.is in
    let are : AreOps plan.ops = c.scenarios_are_valid.ensures.labels false read.bytes plan read.is in
    let many : length plan.ops ≤ plan.settings.looks = omega (arith, are.few, c.scenarios_are_valid.ensures.looks false read.bytes plan read.is) in
    subst (λ (e : Ended). RunEnds i j o p e.status) (sym c.of_run.ensures)
    (ran_ends false RunWrites RunWrites i j o p plan c.run_scenario.result read
    (wrote_all i j plan o.told p.told c.run_scenario.result are many read is (rw c.in-Ok.ensures.unwritten at c.run_scenario.ensures.ok))
    (wrote_some i j plan o.told p.told c.run_scenario.result read is (rw c.in-Ok.ensures.unwritten at c.run_scenario.ensures.err))
    (rw c.in-Ok.ensures.unwritten at c.run_scenario.ensures.cause))

pub returns-in-Ok-clause-refusals : goal.returns-in-Ok-clause-refusals
returns-in-Ok-clause-refusals g c =
    let i : Input = input_of g.I.Source.given g.I.Source.ended g.I.Source.left g.I.Source.faults c.args.input.now in
    let j : Input = input_of g.I.Source.given g.I.Source.ended g.I.Source.left g.I.Source.faults c.read_input.new.input in
    let o : Output = output_of g.O.Sink.taken g.O.Sink.room g.O.Sink.faults c.args.output.now in
    let p : Output = output_of g.O.Sink.taken g.O.Sink.room g.O.Sink.faults c.run_scenario.new.output in
    subst (λ (e : Ended). RefusalEnds false i j o p e) (sym c.of_run.ensures)
    (ran_refusal false i j o p (plan_of c.in-Ok.scenario) c.run_scenario.result c.in-Ok.ensures.ok)

pub returns-in-Err-clause-ends : goal.returns-in-Err-clause-ends
returns-in-Err-clause-ends g c =
    unread_ends false RunWrites RunWrites _ _ _ _ c.in-Err.ended (run_is_of c.scenarios_are_accepted.ensures.scenario) c.one_verdict.ensures.never_both c.in-Err.ensures.err

pub returns-in-Err-clause-refusals : goal.returns-in-Err-clause-refusals
returns-in-Err-clause-refusals g c = unread_refusal false _ _ _ _ c.in-Err.ended c.in-Err.ensures.err
