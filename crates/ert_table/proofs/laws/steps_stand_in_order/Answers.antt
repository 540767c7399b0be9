use Rattle.ert_table.proofs.Order.{one_history, knowledge_stays, steps_in_order, stepping_order}
use Rattle.ert_table.proofs.laws.steps_stand_in_order.Goals as goal

pub returns : goal.returns
returns c = record { one = one_history; known = knowledge_stays; before = steps_in_order; order = stepping_order }
