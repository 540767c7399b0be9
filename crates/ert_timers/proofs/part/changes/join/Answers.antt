use Rattle.std.proofs.Common.{arith}
use Rattle.ert_timers.proofs.Owners.{joins_stay, joins_anew, may_come}
use Rattle.ert_timers.proofs.part.changes.join.Goals as goal

pub own-requires-clause-may : goal.own-requires-clause-may
own-requires-clause-may c =
    may_come c.args.wheel.now.owners c.take_out.new.wheel.owners c.args.slot c.args.process c.requires.may c.take_out.ensures.taken
    c.take_out.ensures.slots c.take_out.ensures.homes c.requires.process

pub returns-then-stays-clause-joins : goal.returns-then-stays-clause-joins
returns-then-stays-clause-joins c = λ places bound are may.
    joins_stay c.args.wheel.now.owners places c.args.slot c.args.process bound are may.orders (may.stands c.if-stays.true)

pub returns-clause-joins : goal.returns-clause-joins
returns-clause-joins c = λ places bound are may.
    joins_anew c.args.wheel.now.owners c.take_out.new.wheel.owners c.own.new.self.owners places c.args.slot c.args.process bound c.args.stays
    are may c.take_out.ensures.taken c.own.ensures.owned

pub own-requires-clause-written : goal.own-requires-clause-written
own-requires-clause-written c = omega (arith, c.requires.written, c.take_out.ensures.written)
