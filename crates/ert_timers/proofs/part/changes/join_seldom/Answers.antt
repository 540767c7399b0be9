use Rattle.ert_timers.proofs.Owners.{joins_stay}
use Rattle.ert_timers.proofs.part.changes.join_seldom.Goals as goal

pub returns-then-stays-clause-joins : goal.returns-then-stays-clause-joins
returns-then-stays-clause-joins c = λ places bound are may.
    joins_stay c.args.wheel.now.owners places c.args.slot c.args.process bound are may.orders (may.stands c.if-stays.true)
