use Rattle.std.proofs.Common.{slice_index_or, refl, sym, subst}
use Rattle.std.specs.Arc.{arc_value}
use Rattle.ert_table.specs.Desks.{settings_of}
use Rattle.ert_timers.specs.{Freeing.IsLetGo, Parts.Part}
use Rattle.ert_world.proofs.{Calls.has_at, Reusing.{freed, keeps_reused, kept_reused, loses_reused}}
use Rattle.ert_world.specs.Worlds.{Seen}
use Rattle.ert_world.proofs.world.World.reuse.Goals as goal

pub reuse-requires-clause-let_go : goal.reuse-requires-clause-let_go
reuse-requires-clause-let_go c =
    subst (λ (p : Part). IsLetGo p c.args.timer) (sym c.index_mut.ensures.value)
    (subst (λ (w : Seen). IsLetGo (slice_index_or w.wheels c.args.timer.wheel c.index_mut.result.now) c.args.timer) (sym c.self.view_is) (c.requires.let_go c.index_mut.result.now))

pub invariant_of-self : goal.invariant_of-self
invariant_of-self c = record {
  sound =
      (let d = arc_value c.self.inside.desk in
      (freed c.args.self.now c.self.inside d c.args.timer.wheel c.index_mut.result.now c.reuse.new.self (has_at refl c.self.view_is c.self.invariant.sound) c.requires.wheel
      c.index_mut.ensures.value c.reuse.ensures.number (c.reuse.ensures.stands (settings_of d) c.self.invariant.sound.fit.belongs.named)
      (loses_reused c.index_mut.result.now c.reuse.new.self c.args.timer.slot c.reuse.ensures.freed)).fit);
  listed = c.self.invariant.listed;
}

pub returns-clause-stays : goal.returns-clause-stays
returns-clause-stays c =
    let d = arc_value c.self.inside.desk in
    (freed c.args.self.now c.self.inside d c.args.timer.wheel c.index_mut.result.now c.reuse.new.self (has_at refl c.self.view_is c.self.invariant.sound) c.requires.wheel
    c.index_mut.ensures.value c.reuse.ensures.number (c.reuse.ensures.stands (settings_of d) c.self.invariant.sound.fit.belongs.named)
    (loses_reused c.index_mut.result.now c.reuse.new.self c.args.timer.slot c.reuse.ensures.freed)).stays

pub returns-clause-kept : goal.returns-clause-kept
returns-clause-kept c =
    kept_reused c.args.self.now c.self.inside (arc_value c.self.inside.desk) c.args.timer.wheel c.index_mut.result.now c.reuse.new.self
    (has_at refl c.self.view_is c.self.invariant.sound) c.requires.wheel c.index_mut.ensures.value
    (keeps_reused c.index_mut.result.now c.reuse.new.self c.args.timer.slot c.reuse.ensures.freed)
