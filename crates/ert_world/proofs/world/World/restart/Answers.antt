use Rattle.std.proofs.Common.{◌≡◌, ◌<◌, ap, slice_index_or, subst, ◌∙◌}
use Rattle.std.specs.Arc.{arc_value}
use Rattle.std.specs.Prelude.{slice_set}
use Rattle.ert_defs.specs.declared.settings.Settings.{Settings}
use Rattle.ert_effects.specs.RestartCalls.{Restarts}
use Rattle.ert_table.specs.{Calls.IsMade, Desks.{settings_of, view_of}}
use Rattle.ert_world.proofs.{Calls.has_at, Listed.kept_by, Renewing.{IsRestarted, restarted_at}, Replaced.replaced_by, Values.refused_value}
use Rattle.ert_timers.specs.Frees.{IsUsedUp, UsesFree}
use Rattle.ert_world.specs.{Restarts.wheel_for, Worlds.Seen}
use Rattle.ert_world.proofs.world.World.restart.Goals as goal

done : (c : goal.After-self-1) → IsRestarted c.args.self.now c.self.inside (arc_value c.self.inside.desk) c.wheel_for-wheel.result c.restart.new.pass
    c.args.timer c.args.start.now c.restart.result c.restart.new.self
done c =
    restarted_at c.args.self.now c.self.inside c.deref.result.now c.deref-2.result.now (arc_value c.self.inside.desk) c.settings.result.now
    c.wheel_for-wheel.result c.restart.new.pass c.args.timer c.args.start.now c.restart.result c.index_mut.result.now c.restart.new.self
    c.settings.ensures c.deref.ensures c.deref-2.ensures (has_at c.deref-2.ensures c.self.view_is c.self.invariant.sound) c.restart.ensures.belongs
    c.wheel_for-wheel.ensures.wheel c.wheel_for-wheel.ensures.low c.index_mut.ensures.value c.restart.ensures.number c.restart.ensures.stands
    c.restart.ensures.call c.restart.ensures.rows c.restart.ensures.gone

pub invariant_of-self : goal.invariant_of-self
invariant_of-self c =
    let all = done c in
    kept_by c.self.inside c.self.inside.list c.self.view_is all.fit all.goes.grows c.self.invariant.listed

pub returns-clause-call : goal.returns-clause-call
returns-clause-call c = (done c).goes

pub returns-clause-time : goal.returns-clause-time
returns-clause-time c = λ is.
    refused_value c.args.self.now c.self.inside c.deref-2.result.now c.restart.new.pass c.index_mut.result.now.number c.args.start.now
    (has_at c.deref-2.ensures c.self.view_is c.self.invariant.sound)
    (subst (λ r. IsMade (settings_of c.deref-2.result.now) (view_of c.self.inside.pass) (Restarts (settings_of c.deref-2.result.now) 0 c.index_mut.result.now.number c.args.timer c.args.start.now r) (view_of c.restart.new.pass)) is c.restart.ensures.call)

pub returns-clause-forgotten : goal.returns-clause-forgotten
returns-clause-forgotten c = (done c).gone

at : (c : goal.After-self-1) → c.wheel_for-wheel.result ≡ wheel_for c.args.self.now.settings c.args.timer
at c =
    c.wheel_for-wheel.ensures.wheel
    ∙ ap (λ g. wheel_for g c.args.timer)
    (c.settings.ensures ∙ (ap settings_of c.deref.ensures ∙ ap (λ (w : Seen). w.settings) c.self.view_is))

low : (c : goal.After-self-1) → c.wheel_for-wheel.result < c.args.self.now.settings.schedulers
low c =
    subst (λ (g : Settings). c.wheel_for-wheel.result < g.schedulers)
    (c.settings.ensures ∙ (ap settings_of c.deref.ensures ∙ ap (λ (w : Seen). w.settings) c.self.view_is)) c.wheel_for-wheel.ensures.low

pub returns-clause-full : goal.returns-clause-full
returns-clause-full c = λ is d.
    subst (λ n. IsUsedUp (slice_index_or c.args.self.now.wheels n d) (slice_index_or (slice_set c.self.inside.wheels.items c.wheel_for-wheel.result c.restart.new.self) n d)) (at c)
    (replaced_by IsUsedUp c.args.self.now c.self.inside c.deref-2.result.now c.wheel_for-wheel.result c.index_mut.result.now c.restart.new.self
    (has_at c.deref-2.ensures c.self.view_is c.self.invariant.sound) (low c) c.index_mut.ensures.value (c.restart.ensures.full is) d)

pub returns-clause-frees : goal.returns-clause-frees
returns-clause-frees c = λ d.
    subst (λ n. UsesFree (slice_index_or c.args.self.now.wheels n d) (slice_index_or (slice_set c.self.inside.wheels.items c.wheel_for-wheel.result c.restart.new.self) n d) c.restart.result) (at c)
    (replaced_by (λ p q. UsesFree p q c.restart.result) c.args.self.now c.self.inside c.deref-2.result.now c.wheel_for-wheel.result c.index_mut.result.now
    c.restart.new.self (has_at c.deref-2.ensures c.self.view_is c.self.invariant.sound) (low c) c.index_mut.ensures.value c.restart.ensures.frees d)
