use Rattle.ert_world.proofs.Known.{started_stays, known_starts, none_settled}
use Rattle.ert_world.proofs.laws.started_timers_are_known.Goals as goal

pub returns-clause-stays : goal.returns-clause-stays
returns-clause-stays c = started_stays

pub returns-clause-starts : goal.returns-clause-starts
returns-clause-starts c = known_starts

pub returns-clause-none : goal.returns-clause-none
returns-clause-none c = none_settled
