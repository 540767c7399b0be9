use Rattle.ert_effects.proofs.Ended.{asks_tell}
use Rattle.ert_effects.proofs.told_answers.asks_are_told.Goals as goal

pub returns : goal.returns
returns c = asks_tell
