use Rattle.std.specs.Arc.{arc_value}
use Rattle.std.proofs.Common.{subst}
use Rattle.ert_laws.proofs.Kept.{keeps_laws}
use Rattle.ert_laws.specs.KeptLaws.{KeepsLaws}
use Rattle.ert_world.specs.Worlds.{Seen}
use Rattle.ert_table.specs.Desks.{settings_of, front_of}
use Rattle.ert_world.proofs.world.World.into_desk.Goals as goal

pub returns-clause-laws : goal.returns-clause-laws
returns-clause-laws c =
    let d = arc_value c.self.inside.desk in
    subst (λ (w : Seen). KeepsLaws w.settings w.history) c.self.view_is
    (keeps_laws (settings_of d) (front_of c.self.inside.pass) d.checked c.self.invariant.sound.fit.stand.legal)
