use Rattle.std.proofs.Common.{rules, ◌≡◌, Some}
use Rattle.ert_ops.specs.Races.{race_of}
use Rattle.ert_scenario.specs.Scenarios.{plan_of}
use Rattle.ert_program.proofs.Raced.{race_stops}
use Rattle.ert_program.proofs.racing.race_scenario.Goals as goal

pub returns-clause-err : goal.returns-clause-err
returns-clause-err g c =
    let has : (plan_of c.args.scenario.now).race ≡ Some (race_of c.in-Some.race) = search rules in
    race_stops (plan_of c.args.scenario.now) (race_of c.in-Some.race) _ _ c.run_race.result has (rw c.deref.ensures.value at c.run_race.ensures.err)
