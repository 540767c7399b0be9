use Rattle.ert_wheel.proofs.Following.{finds_used}
use Rattle.ert_wheel.proofs.marked.MarkedChains.first_used.Goals as goal

pub returns-clause-first : goal.returns-clause-first
returns-clause-first c =
    let m = c.self.inside in
    finds_used c.args.self.now m.chains m.marks c.args.from c.args.end c.first.result c.self.view_is c.self.invariant
    (record { up = c.first.ensures.up; low = c.first.ensures.low; below = c.first.ensures.below; here = c.first.ensures.here }) c.requires.end
