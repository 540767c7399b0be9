use Rattle.std.proofs.Common.{List, refl, sym, ap, subst, ◌∙◌}
use Rattle.std.specs.Arc.{arc_value}
use Rattle.ert_timers.specs.Parts.{Part}
use Rattle.ert_world.proofs.{Calls.has_at, Ending.{held_at, owners_high, same_set}}
use Rattle.ert_world.specs.{Parts.parts_of, Worlds.{seen, AreSound}}
use Rattle.ert_world.proofs.world.World.held_for.Goals as goal

pub held_for-requires : goal.held_for-requires
held_for-requires c =
    owners_high c.args.self.now c.self.inside (arc_value c.self.inside.desk) c.args.wheel c.args.process c.index_mut.result.now
    (has_at refl c.self.view_is c.self.invariant.sound) c.requires.wheel c.requires.process c.index_mut.ensures.value

pub invariant_of-self : goal.invariant_of-self
invariant_of-self c = record {
  sound =
      subst (λ (ws : List Part). AreSound (arc_value c.self.inside.desk) c.self.inside.pass c.self.inside.next
      (record (parts_of c.self.inside.keeper ws c.self.inside.inboxes.items c.self.inside.mails.items c.self.inside.scheds.items) { turns = c.self.inside.list }))
      (sym (same_set c.self.inside.wheels.items c.args.wheel c.index_mut.result.now c.held_for.new.self c.index_mut.ensures.value c.held_for.ensures.same))
      c.self.invariant.sound;
  listed = c.self.invariant.listed;
}

pub returns-clause-same : goal.returns-clause-same
returns-clause-same c =
    ap (λ (ws : List Part). seen (arc_value c.self.inside.desk) c.self.inside.pass c.self.inside.next c.self.inside.keeper ws c.self.inside.list)
    (same_set c.self.inside.wheels.items c.args.wheel c.index_mut.result.now c.held_for.new.self c.index_mut.ensures.value c.held_for.ensures.same)
    ∙ c.self.view_is

pub returns-clause-held : goal.returns-clause-held
returns-clause-held c =
    held_at c.args.self.now c.self.inside (arc_value c.self.inside.desk) c.args.wheel c.args.process c.index_mut.result.now c.held_for.result
    (has_at refl c.self.view_is c.self.invariant.sound) c.requires.wheel c.index_mut.ensures.value c.held_for.ensures.held
