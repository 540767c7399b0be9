use Rattle.std.proofs.Common.{subst}
use Rattle.std.specs.Arc.{arc_value}
use Rattle.ert_laws.proofs.Kept.{keeps_laws}
use Rattle.ert_laws.specs.KeptLaws.{KeepsLaws}
use Rattle.ert_shard.specs.Hubs.{Rest}
use Rattle.ert_table.specs.Desks.{settings_of, front_of}
use Rattle.ert_shard.proofs.hub.Hub.keeps_laws.Goals as goal

pub returns : goal.returns
returns c =
    let d = arc_value c.self.inside.desk in
    subst (λ (r : Rest). KeepsLaws r.settings r.history) c.self.view_is
    (keeps_laws (settings_of d) (front_of c.self.inside.pass) d.checked c.self.invariant.0.stand.legal)
