use Rattle.ert_effects.proofs.TurnEnds.{turns_end}
use Rattle.ert_effects.proofs.laws.turns_deliver_all.Goals as goal

pub returns : goal.returns
returns c = turns_end
