use Rattle.std.proofs.Common.{length, sym, subst}
use Rattle.ert_names.specs.Fits.{FitsNames}
use Rattle.ert_names.proofs.Living.{removed_living}
use Rattle.ert_names.proofs.world.NameWorld.unregister.Goals as goal

pub invariant_of-self : goal.invariant_of-self
invariant_of-self c =
    let n = length c.self.inside.rows.items in
    let w = c.self.inside.world in
    subst (λ names. FitsNames n names w) (sym c.remove.ensures.removed) (removed_living n c.self.inside.registry c.args.name.now w c.self.invariant)
