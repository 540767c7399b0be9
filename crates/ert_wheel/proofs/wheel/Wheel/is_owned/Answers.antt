use Rattle.std.proofs.Common.{◌↔◌, not, ap, subst, ℕ, Option}
use Rattle.std.specs.{Bool.IsTrue, Option.IsSome}
use Rattle.ert_wheel.proofs.{Calls.is_placed, Writes.{low_in, owners_of}}
use Rattle.ert_wheel.proofs.wheel.Wheel.is_owned.Goals as goal
use Rattle.ert_wheel.specs.Rings.{Rings, Place, AreChains}

pub is_alone-requires : goal.is_alone-requires
is_alone-requires g c = (low_in c.args.slot c.self.invariant c.self.view_is c.requires).low_owner

pub returns : goal.returns
returns g c =
    subst (λ (r : Rings). (places : ℕ → Option Place) → AreChains r places → IsTrue (not c.is_alone.result) ↔ IsSome (places c.args.slot))
    (ap owners_of c.self.view_is)
    (λ places are. is_placed c.self.inside.owners c.args.slot c.is_alone.result places are
    (low_in c.args.slot c.self.invariant c.self.view_is c.requires).is_slot c.is_alone.ensures)
