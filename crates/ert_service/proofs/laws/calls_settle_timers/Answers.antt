use Rattle.ert_service.proofs.Settling.{advances_settle, exits_settle, starts_settle, turns_leave_none}
use Rattle.ert_service.proofs.laws.calls_settle_timers.Goals as goal

pub returns-clause-advances : goal.returns-clause-advances
returns-clause-advances c = advances_settle

pub returns-clause-exits : goal.returns-clause-exits
returns-clause-exits c = exits_settle

pub returns-clause-starts : goal.returns-clause-starts
returns-clause-starts c = starts_settle

pub returns-clause-turns : goal.returns-clause-turns
returns-clause-turns c = turns_leave_none
