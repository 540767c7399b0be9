use Rattle.std.proofs.Common.{◌≤◌, length, subst, arith}
use Rattle.std.specs.Arc.{arc_value}
use Rattle.ert_defs.specs.{Legal.Legal, declared.settings.TheConstants.MOST_SLOTS}
use Rattle.ert_laws.proofs.Few.{expired_few}
use Rattle.ert_world.specs.Worlds.{Seen, world_sched}
use Rattle.ert_table.specs.Desks.{settings_of, front_of}
use Rattle.ert_world.proofs.stepping.WorldSchedSteps.first_of_expired.Goals as goal

pub returns-clause-few : goal.returns-clause-few
returns-clause-few c =
    subst (λ (w : Seen). length (world_sched w c.args.sched).expired ≤ MOST_SLOTS) c.self.view_is
    (let few = expired_few (settings_of (arc_value c.self.inside.desk)) (front_of c.self.inside.pass) c.args.sched c.self.invariant.sound.fit.stand.legal in
    let high = (arc_value c.self.inside.desk).checked.counts.slots_high in
    omega (arith, few, high))

pub returns-clause-legal : goal.returns-clause-legal
returns-clause-legal c =
    subst (λ (w : Seen). Legal w.settings w.history) c.self.view_is c.self.invariant.sound.fit.stand.legal
