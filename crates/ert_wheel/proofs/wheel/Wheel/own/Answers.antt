use Rattle.std.proofs.Common.{refl, subst, ap}
use Rattle.ert_wheel.proofs.Writes.{alike_after, low_in, owners_of}
use Rattle.ert_wheel.proofs.wheel.Wheel.own.Goals as goal
use Rattle.ert_wheel.specs.Rings.{Rings, Puts, PutsInHome}

pub returns-clause-owned : goal.returns-clause-owned
returns-clause-owned g c =
    subst (λ (r : Rings). Puts r c.put.new.self c.args.slot c.args.owner) (ap owners_of c.self.view_is) c.put.ensures.chains

pub returns-clause-in_home : goal.returns-clause-in_home
returns-clause-in_home g c =
    subst (λ (r : Rings). PutsInHome r c.put.new.self c.args.slot c.args.owner) (ap owners_of c.self.view_is) c.put.ensures.in_home

pub put-requires-clause-written : goal.put-requires-clause-written
put-requires-clause-written g c = (low_in c.args.slot c.self.invariant c.self.view_is c.requires.written).low_owner

pub invariant_of-self : goal.invariant_of-self
invariant_of-self g c = record {
  rows = c.self.invariant.rows;
  alike = alike_after c.self.invariant.alike refl refl refl refl c.put.ensures.written c.put.ensures.slots;
}
