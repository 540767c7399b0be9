use Rattle.ert_laws.proofs.SlotUses.{all_few, timers_few}
use Rattle.ert_laws.proofs.counts.timers_are_few.Goals as goal

pub returns-clause-many : goal.returns-clause-many
returns-clause-many c = timers_few

pub returns-clause-all : goal.returns-clause-all
returns-clause-all c = all_few
