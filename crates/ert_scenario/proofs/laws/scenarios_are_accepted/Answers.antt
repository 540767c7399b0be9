use Rattle.ert_scenario.proofs.Acceptance.{accepted, is_scenario, plan_is_alone}
use Rattle.ert_scenario.proofs.laws.scenarios_are_accepted.Goals as goal

pub returns-clause-accepted : goal.returns-clause-accepted
returns-clause-accepted c bytes plan h = record { value = h.0; is = h.1; accepted = accepted h.0 plan h.2 }

pub returns-clause-scenario : goal.returns-clause-scenario
returns-clause-scenario c bytes g ops h = (h.value, h.is, is_scenario h.value g ops h.accepted)

pub returns-clause-alone : goal.returns-clause-alone
returns-clause-alone c bytes plan h = plan_is_alone h.0 plan h.2
