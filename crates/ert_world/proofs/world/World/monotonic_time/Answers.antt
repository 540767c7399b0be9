use Rattle.std.proofs.Common.{rules, FitsSigned, w64, to_z-of_z}
use Rattle.ert_effects.specs.ClockCalls.{TellsTime}
use Rattle.ert_defs.specs.declared.entry.Actor.TheVariants.{Caller}
use Rattle.ert_table.specs.Desks.{settings_of}
use Rattle.ert_world.proofs.{Calm.time_quiet, Calls.{has_at, alone_called}, Listed.kept_by, Values.time_value}
use Rattle.ert_world.proofs.world.World.monotonic_time.Goals as goal

pub invariant_of-self : goal.invariant_of-self
invariant_of-self c =
    let all =
    ((alone_called c.args.self.now c.self.inside c.deref.result.now _ c.monotonic_time.new.self (λ g. TellsTime g (Caller 0) c.monotonic_time.result) c.deref.ensures c.self.view_is c.self.invariant.sound
    c.monotonic_time.ensures.belongs c.monotonic_time.ensures.call (time_quiet (settings_of c.deref.result.now) (Caller 0) c.monotonic_time.result))) in
    kept_by c.self.inside c.self.inside.list c.self.view_is all.fit all.goes.grows c.self.invariant.listed

pub returns-clause-call : goal.returns-clause-call
returns-clause-call c =
    let fits : FitsSigned w64 c.monotonic_time.result = search rules in
    simp to_z-of_z
    (alone_called c.args.self.now c.self.inside c.deref.result.now _ c.monotonic_time.new.self (λ g. TellsTime g (Caller 0) c.monotonic_time.result) c.deref.ensures c.self.view_is c.self.invariant.sound
    c.monotonic_time.ensures.belongs c.monotonic_time.ensures.call (time_quiet (settings_of c.deref.result.now) (Caller 0) c.monotonic_time.result)).goes

pub returns-clause-value : goal.returns-clause-value
returns-clause-value c =
    let fits : FitsSigned w64 c.monotonic_time.result = search rules in
    simp to_z-of_z (time_value c.args.self.now c.self.inside c.deref.result.now c.monotonic_time.new.self c.monotonic_time.result (has_at c.deref.ensures c.self.view_is c.self.invariant.sound) c.monotonic_time.ensures.call)
