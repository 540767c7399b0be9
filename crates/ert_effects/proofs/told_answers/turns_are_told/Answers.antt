use Rattle.ert_effects.proofs.Ended.{serves_tell, deliveries_tell, turns_tell}
use Rattle.ert_effects.proofs.told_answers.turns_are_told.Goals as goal

pub returns-clause-serves : goal.returns-clause-serves
returns-clause-serves c = serves_tell

pub returns-clause-deliveries : goal.returns-clause-deliveries
returns-clause-deliveries c = deliveries_tell

pub returns-clause-turns : goal.returns-clause-turns
returns-clause-turns c = turns_tell
