use Rattle.ert_laws.proofs.Few.{expired_few}
use Rattle.ert_laws.proofs.ranges.expired_timers_are_few.Goals as goal

pub returns : goal.returns
returns c = expired_few
