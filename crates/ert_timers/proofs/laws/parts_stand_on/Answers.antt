use Rattle.ert_timers.proofs.LawsHold.{stand_on}
use Rattle.ert_timers.proofs.laws.parts_stand_on.Goals as goal

pub returns : goal.returns
returns c = stand_on
