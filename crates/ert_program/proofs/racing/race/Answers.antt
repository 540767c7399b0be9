use Rattle.std.proofs.Common.{true, subst, sym}
use Rattle.ert_program.proofs.{Listed.wanted_of, Ends.{unread_ends, unread_refusal, ran_ends, ran_refusal}, Raced.{reported, reported_some, race_is_of}}
use Rattle.ert_io.specs.Reads.{Input, input_of}
use Rattle.ert_scenario.specs.Scenarios.{plan_of}
use Rattle.ert_program.specs.{Written.MayWrite, Races.{IsReport, RaceWrites, RaceEnds}, RefusedInputs.RefusalEnds, Streams.{Output, output_of}, declared.ending.Ended.Ended}
use Rattle.ert_program.proofs.racing.race.Goals as goal

pub race_scenario-requires-clause-checked : goal.race_scenario-requires-clause-checked
race_scenario-requires-clause-checked g c = λ κs bounds.
    c.scenarios_are_valid.ensures.settings true _ (plan_of c.in-Ok.scenario) c.in-Ok.ensures.ok.is

pub race_scenario-requires-clause-ranges : goal.race_scenario-requires-clause-ranges
race_scenario-requires-clause-ranges g c = λ κs bounds.
    c.scenarios_are_valid.ensures.ops true _ (plan_of c.in-Ok.scenario) c.in-Ok.ensures.ok.is

pub race_scenario-requires-clause-wanted : goal.race_scenario-requires-clause-wanted
race_scenario-requires-clause-wanted g c = λ κs bounds.
    wanted_of c.in-Ok.scenario.race (c.scenarios_are_valid.ensures.wanted true _ (plan_of c.in-Ok.scenario) c.in-Ok.ensures.ok.is)

pub race_scenario-requires-clause-race : goal.race_scenario-requires-clause-race
race_scenario-requires-clause-race g c = λ κs bounds.
    c.scenarios_are_valid.ensures.race true _ (plan_of c.in-Ok.scenario) c.in-Ok.ensures.ok.is

pub returns-in-Ok-clause-ends : goal.returns-in-Ok-clause-ends
returns-in-Ok-clause-ends g c =
    let i : Input = input_of g.I.Source.given g.I.Source.ended g.I.Source.left g.I.Source.faults c.args.input.now in
    let j : Input = input_of g.I.Source.given g.I.Source.ended g.I.Source.left g.I.Source.faults c.read_input.new.input in
    let o : Output = output_of g.O.Sink.taken g.O.Sink.room g.O.Sink.faults c.args.output.now in
    let p : Output = output_of g.O.Sink.taken g.O.Sink.room g.O.Sink.faults c.race_scenario.new.output in
    let plan = plan_of c.in-Ok.scenario in
    let read = c.in-Ok.ensures.ok in
    subst (λ (e : Ended). RaceEnds i j o p e.status) (sym c.of_run.ensures)
    (ran_ends true (RaceWrites IsReport) (RaceWrites MayWrite) i j o p plan c.race_scenario.result read
    (reported i j plan o.told p.told c.race_scenario.result c.races_are_accepted.ensures.accepted read (rw c.in-Ok.ensures.unwritten at c.race_scenario.ensures.ok))
    (reported_some i j plan o.told p.told c.race_scenario.result c.races_are_accepted.ensures.accepted read (rw c.in-Ok.ensures.unwritten at c.race_scenario.ensures.err))
    (rw c.in-Ok.ensures.unwritten at c.race_scenario.ensures.cause))

pub returns-in-Ok-clause-refusals : goal.returns-in-Ok-clause-refusals
returns-in-Ok-clause-refusals g c =
    let i : Input = input_of g.I.Source.given g.I.Source.ended g.I.Source.left g.I.Source.faults c.args.input.now in
    let j : Input = input_of g.I.Source.given g.I.Source.ended g.I.Source.left g.I.Source.faults c.read_input.new.input in
    let o : Output = output_of g.O.Sink.taken g.O.Sink.room g.O.Sink.faults c.args.output.now in
    let p : Output = output_of g.O.Sink.taken g.O.Sink.room g.O.Sink.faults c.race_scenario.new.output in
    subst (λ (e : Ended). RefusalEnds true i j o p e) (sym c.of_run.ensures)
    (ran_refusal true i j o p (plan_of c.in-Ok.scenario) c.race_scenario.result c.in-Ok.ensures.ok)

pub returns-in-Err-clause-ends : goal.returns-in-Err-clause-ends
returns-in-Err-clause-ends g c =
    unread_ends true (RaceWrites IsReport) (RaceWrites MayWrite) _ _ _ _ c.in-Err.ended (race_is_of MayWrite c.races_are_accepted.ensures.scenario) c.one_verdict.ensures.never_both c.in-Err.ensures.err

pub returns-in-Err-clause-refusals : goal.returns-in-Err-clause-refusals
returns-in-Err-clause-refusals g c = unread_refusal true _ _ _ _ c.in-Err.ended c.in-Err.ensures.err
