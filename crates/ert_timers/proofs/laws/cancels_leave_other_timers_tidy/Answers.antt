use Rattle.ert_timers.proofs.Cancelled.{cancel_leaves}
use Rattle.ert_timers.proofs.laws.cancels_leave_other_timers_tidy.Goals as goal

pub returns : goal.returns
returns c = cancel_leaves
