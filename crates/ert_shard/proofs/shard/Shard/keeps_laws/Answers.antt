use Rattle.std.proofs.Common.{subst}
use Rattle.std.specs.Arc.{arc_value}
use Rattle.ert_defs.specs.{Actors.of, declared.entry.Actor.TheVariants.Wheel}
use Rattle.ert_laws.proofs.Kept.{keeps_laws}
use Rattle.ert_laws.specs.KeptLaws.{KeepsLaws}
use Rattle.ert_shard.specs.Shards.{Owned, AreHome}
use Rattle.ert_table.specs.Desks.{settings_of, front_of}
use Rattle.ert_shard.proofs.shard.Shard.keeps_laws.Goals as goal

pub returns-clause-laws : goal.returns-clause-laws
returns-clause-laws c =
    let d = arc_value c.self.inside.desk in
    subst (λ (o : Owned). KeepsLaws o.settings o.history) c.self.view_is
    (keeps_laws (settings_of d) (front_of c.self.inside.pass) d.checked c.self.invariant.stand.legal)

pub returns-clause-home : goal.returns-clause-home
returns-clause-home c = subst (λ (o : Owned). AreHome o.share (of o.history (Wheel o.share.number))) c.self.view_is c.self.invariant.home
