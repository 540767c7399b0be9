use Rattle.ert_effects.proofs.Ended.{exits_tell}
use Rattle.ert_effects.proofs.told_answers.exits_are_told.Goals as goal

pub returns : goal.returns
returns c = exits_tell
