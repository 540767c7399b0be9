use Rattle.std.proofs.Common.{length, subst}
use Rattle.std.proofs.lemmas.List.{length-map}
use Rattle.ert_names.specs.{Living.AreLiving, Promised.IsPromised, Registered.Registered}
use Rattle.ert_names.proofs.Promised.{promised}
use Rattle.ert_names.proofs.world.NameWorld.world.Goals as goal

pub returns-clause-promised : goal.returns-clause-promised
returns-clause-promised c =
    subst (λ (w : Registered). IsPromised (length w.rows) w.world) c.self.view_is
    (rw length-map (promised (length c.self.inside.rows.items) c.self.inside.world c.settings-settings.ensures.stands c.self.invariant.fits))

pub returns-clause-living : goal.returns-clause-living
returns-clause-living c = subst (λ (w : Registered). AreLiving w.names w.world) c.self.view_is c.self.invariant.living
