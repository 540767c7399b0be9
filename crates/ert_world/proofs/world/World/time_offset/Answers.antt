use Rattle.ert_effects.specs.ClockCalls.{TellsOffset}
use Rattle.ert_defs.specs.declared.entry.Actor.TheVariants.{Caller}
use Rattle.ert_table.specs.Desks.{settings_of}
use Rattle.ert_world.proofs.{Calm.offset_quiet, Calls.{has_at, alone_called}, Listed.kept_by, Values.offset_value}
use Rattle.ert_world.proofs.world.World.time_offset.Goals as goal

pub invariant_of-self : goal.invariant_of-self
invariant_of-self c =
    let all =
    ((alone_called c.args.self.now c.self.inside c.deref.result.now _ c.time_offset.new.self (λ g. TellsOffset g (Caller 0) c.time_offset.result) c.deref.ensures c.self.view_is c.self.invariant.sound
    c.time_offset.ensures.belongs c.time_offset.ensures.call (offset_quiet (settings_of c.deref.result.now) (Caller 0) c.time_offset.result))) in
    kept_by c.self.inside c.self.inside.list c.self.view_is all.fit all.goes.grows c.self.invariant.listed

pub returns-clause-call : goal.returns-clause-call
returns-clause-call c =
    (alone_called c.args.self.now c.self.inside c.deref.result.now _ c.time_offset.new.self (λ g. TellsOffset g (Caller 0) c.time_offset.result) c.deref.ensures c.self.view_is c.self.invariant.sound
    c.time_offset.ensures.belongs c.time_offset.ensures.call (offset_quiet (settings_of c.deref.result.now) (Caller 0) c.time_offset.result)).goes

pub returns-clause-value : goal.returns-clause-value
returns-clause-value c =
    (offset_value c.args.self.now c.self.inside c.deref.result.now c.time_offset.new.self c.time_offset.result (has_at c.deref.ensures c.self.view_is c.self.invariant.sound) c.time_offset.ensures.call).0

pub returns-clause-state : goal.returns-clause-state
returns-clause-state c =
    (offset_value c.args.self.now c.self.inside c.deref.result.now c.time_offset.new.self c.time_offset.result (has_at c.deref.ensures c.self.view_is c.self.invariant.sound) c.time_offset.ensures.call).1
