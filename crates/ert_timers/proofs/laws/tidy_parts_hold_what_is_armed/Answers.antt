use Rattle.ert_timers.proofs.Counted.{tidy_counts}
use Rattle.ert_timers.proofs.laws.tidy_parts_hold_what_is_armed.Goals as goal

pub returns : goal.returns
returns c = tidy_counts
