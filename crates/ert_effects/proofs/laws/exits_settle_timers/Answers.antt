use Rattle.ert_effects.proofs.Swept.{exits_settle_timers}
use Rattle.ert_effects.proofs.laws.exits_settle_timers.Goals as goal

pub returns : goal.returns
returns c = exits_settle_timers
