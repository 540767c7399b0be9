use Rattle.ert_effects.proofs.Told.{starts_same, advances_same}
use Rattle.ert_effects.proofs.laws.answers_are_read.Goals as goal

pub returns-clause-starts : goal.returns-clause-starts
returns-clause-starts c = starts_same

pub returns-clause-advances : goal.returns-clause-advances
returns-clause-advances c = advances_same
