use Rattle.std.proofs.Common.{subst, arith, ap}
use Rattle.ert_wheel.proofs.Replacing.{may_put_again, moves_by, moves_none}
use Rattle.ert_wheel.proofs.marked.MarkedChains.renew.Goals as goal
use Rattle.ert_wheel.specs.Rings.{Rings, MovesSlot}

pub put-requires-clause-may : goal.put-requires-clause-may
put-requires-clause-may c =
    may_put_again c.args.self.now c.take.new.self c.args.slot c.args.home c.requires.slot c.take.ensures.chains c.take.ensures.slots
    (omega (arith, c.requires.home, c.take.ensures.homes, c.self.invariant.homes, ap (λ (r : Rings). r.homes) c.self.view_is))

pub returns-then-is_newest-clause-chains : goal.returns-then-is_newest-clause-chains
returns-then-is_newest-clause-chains c =
    subst (λ (r : Rings). MovesSlot r r c.args.slot c.args.home) c.self.view_is
    (moves_none c.self.inside.chains c.args.slot c.args.home (c.is_newest.ensures c.if-is_newest.true))

pub returns-clause-chains : goal.returns-clause-chains
returns-clause-chains c =
    moves_by c.args.self.now c.take.new.self c.put.new.self c.args.slot c.args.home c.take.ensures.chains c.put.ensures.chains

pub put-requires-clause-written : goal.put-requires-clause-written
put-requires-clause-written c = omega (arith, c.requires.written, c.take.ensures.written)
