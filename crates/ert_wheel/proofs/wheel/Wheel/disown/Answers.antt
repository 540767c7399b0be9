use Rattle.std.proofs.Common.{refl, subst, ap}
use Rattle.ert_wheel.proofs.Writes.{alike_after, low_in, owners_of}
use Rattle.ert_wheel.proofs.wheel.Wheel.disown.Goals as goal
use Rattle.ert_wheel.specs.Rings.{Rings, GivesUpPlace}

pub returns-clause-disowned : goal.returns-clause-disowned
returns-clause-disowned g c =
    subst (λ (r : Rings). GivesUpPlace r c.take.new.self c.args.slot) (ap owners_of c.self.view_is) c.take.ensures.chains

pub take-requires-clause-written : goal.take-requires-clause-written
take-requires-clause-written g c = (low_in c.args.slot c.self.invariant c.self.view_is c.requires.written).low_owner

pub invariant_of-self : goal.invariant_of-self
invariant_of-self g c = record {
  rows = c.self.invariant.rows;
  alike = alike_after c.self.invariant.alike refl refl refl refl c.take.ensures.written c.take.ensures.slots;
}
