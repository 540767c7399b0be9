use Rattle.ert_laws.proofs.Looks.{due_by_now}
use Rattle.ert_laws.proofs.clock_laws.no_timer_expires_early.Goals as goal

pub returns : goal.returns
returns c = due_by_now
