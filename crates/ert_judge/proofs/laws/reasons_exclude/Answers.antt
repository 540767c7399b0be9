use Rattle.ert_judge.proofs.EventsExclude.{excludes}
use Rattle.ert_judge.proofs.laws.reasons_exclude.Goals as goal

pub returns : goal.returns
returns c = excludes
