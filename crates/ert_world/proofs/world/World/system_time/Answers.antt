use Rattle.std.proofs.Common.{rules, FitsSigned, w64, to_z-of_z}
use Rattle.ert_effects.specs.ClockCalls.{TellsSystemTime}
use Rattle.ert_defs.specs.declared.entry.Actor.TheVariants.{Caller}
use Rattle.ert_table.specs.Desks.{settings_of}
use Rattle.ert_world.proofs.{Calm.system_quiet, Calls.{has_at, alone_called}, Listed.kept_by, Values.system_value}
use Rattle.ert_world.proofs.world.World.system_time.Goals as goal

pub invariant_of-self : goal.invariant_of-self
invariant_of-self c =
    let all =
    ((alone_called c.args.self.now c.self.inside c.deref.result.now _ c.system_time.new.self (λ g. TellsSystemTime g (Caller 0) c.system_time.result) c.deref.ensures c.self.view_is c.self.invariant.sound
    c.system_time.ensures.belongs c.system_time.ensures.call (system_quiet (settings_of c.deref.result.now) (Caller 0) c.system_time.result))) in
    kept_by c.self.inside c.self.inside.list c.self.view_is all.fit all.goes.grows c.self.invariant.listed

pub returns-clause-call : goal.returns-clause-call
returns-clause-call c =
    let fits : FitsSigned w64 c.system_time.result = search rules in
    simp to_z-of_z
    (alone_called c.args.self.now c.self.inside c.deref.result.now _ c.system_time.new.self (λ g. TellsSystemTime g (Caller 0) c.system_time.result) c.deref.ensures c.self.view_is c.self.invariant.sound
    c.system_time.ensures.belongs c.system_time.ensures.call (system_quiet (settings_of c.deref.result.now) (Caller 0) c.system_time.result)).goes

pub returns-clause-value : goal.returns-clause-value
returns-clause-value c =
    let fits : FitsSigned w64 c.system_time.result = search rules in
    simp to_z-of_z (system_value c.args.self.now c.self.inside c.deref.result.now c.system_time.new.self c.system_time.result (has_at c.deref.ensures c.self.view_is c.self.invariant.sound) c.system_time.ensures.call)
