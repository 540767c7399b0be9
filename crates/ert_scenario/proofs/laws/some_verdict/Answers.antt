use Rattle.ert_scenario.proofs.Refused.{decided}
use Rattle.ert_scenario.proofs.laws.some_verdict.Goals as goal

pub returns : goal.returns
returns c = decided
