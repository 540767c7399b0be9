use Rattle.ert_scenario.proofs.AcceptedRace.{accepted_race, is_raced}
use Rattle.ert_scenario.proofs.laws.races_are_accepted.Goals as goal

pub returns-clause-accepted : goal.returns-clause-accepted
returns-clause-accepted c bytes plan h =
    let a = accepted_race h.0 plan h.2 in
    (a.race, a.has, record { value = h.0; is = h.1; accepted = a.accepted })

pub returns-clause-scenario : goal.returns-clause-scenario
returns-clause-scenario c bytes g ops race h = (h.value, h.is, is_raced h.value g ops race h.accepted)
