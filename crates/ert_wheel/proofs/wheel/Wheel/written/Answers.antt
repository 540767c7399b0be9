use Rattle.std.proofs.Common.{length, ap, arith}
use Rattle.ert_wheel.proofs.wheel.Wheel.written.Goals as goal
use Rattle.ert_wheel.specs.Rows.{Held}

pub returns-clause-written : goal.returns-clause-written
returns-clause-written g c =
    omega (arith, c.len.ensures.keys, c.self.invariant.alike.records, c.self.invariant.alike.owned, ap (λ (h : Held _). h.owners.written) c.self.view_is)

pub returns-clause-values : goal.returns-clause-values
returns-clause-values g c = omega (arith, c.len.ensures.values, ap (λ (h : Held _). length h.values) c.self.view_is)
