use Rattle.ert_timers.proofs.Owners.{takes_none}
use Rattle.ert_timers.proofs.part.changes.take_out.Goals as goal

pub returns-else-is_owned-clause-taken : goal.returns-else-is_owned-clause-taken
returns-else-is_owned-clause-taken c = takes_none c.args.wheel.now.owners c.args.slot c.is_owned.result c.is_owned.ensures (λ is. let no = c.if-is_owned.false in cc)
