use Rattle.ert_laws.proofs.Expiries.{in_turn, in_order}
use Rattle.ert_laws.proofs.mail_order.timer_messages_come_in_order.Goals as goal

pub returns-clause-turns : goal.returns-clause-turns
returns-clause-turns c = in_turn

pub returns-clause-order : goal.returns-clause-order
returns-clause-order c = in_order
