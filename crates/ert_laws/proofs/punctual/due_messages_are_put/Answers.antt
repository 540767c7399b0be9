use Rattle.ert_laws.proofs.DueMessages.{due_delivered, put_in_order, put_once}
use Rattle.ert_laws.proofs.punctual.due_messages_are_put.Goals as goal

pub returns-clause-due : goal.returns-clause-due
returns-clause-due c = due_delivered

pub returns-clause-put : goal.returns-clause-put
returns-clause-put c = put_once

pub returns-clause-order : goal.returns-clause-order
returns-clause-order c = put_in_order
