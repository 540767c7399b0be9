use Rattle.ert_defs.proofs.Settlings.{statuses_move, timers_settle, settled_timers_stay, rows_stay_settled, slots_in_order}
use Rattle.ert_defs.proofs.laws.timers_settle_once.Goals as goal

pub returns-clause-moves : goal.returns-clause-moves
returns-clause-moves c = statuses_move

pub returns-clause-once : goal.returns-clause-once
returns-clause-once c = timers_settle

pub returns-clause-settled : goal.returns-clause-settled
returns-clause-settled c = settled_timers_stay

pub returns-clause-rows : goal.returns-clause-rows
returns-clause-rows c = rows_stay_settled

pub returns-clause-slots : goal.returns-clause-slots
returns-clause-slots c = slots_in_order
