use Rattle.ert_effects.specs.ClockCalls.{Finalizes}
use Rattle.ert_table.specs.Desks.{settings_of}
use Rattle.ert_world.proofs.{Calm.finalizes_quiet, Calls.{Has, has_at, keeper_called, reads_by}, Listed.kept_by}
use Rattle.ert_world.proofs.world.World.finalize.Goals as goal

pub invariant_of-self : goal.invariant_of-self
invariant_of-self c =
    let all =
    ((keeper_called c.args.self.now c.self.inside c.deref.result.now _ c.finalize.new.pass c.finalize.new.self (λ g. Finalizes g 0 c.args.reading c.finalize.result) c.deref.ensures c.self.view_is c.self.invariant.sound
    c.finalize.ensures.belongs c.finalize.ensures.stands c.finalize.ensures.call (finalizes_quiet (settings_of c.deref.result.now) 0 c.args.reading c.finalize.result))) in
    kept_by c.self.inside c.self.inside.list c.self.view_is all.fit all.goes.grows c.self.invariant.listed

pub returns-clause-call : goal.returns-clause-call
returns-clause-call c =
    (keeper_called c.args.self.now c.self.inside c.deref.result.now _ c.finalize.new.pass c.finalize.new.self (λ g. Finalizes g 0 c.args.reading c.finalize.result) c.deref.ensures c.self.view_is c.self.invariant.sound
    c.finalize.ensures.belongs c.finalize.ensures.stands c.finalize.ensures.call (finalizes_quiet (settings_of c.deref.result.now) 0 c.args.reading c.finalize.result)).goes

pub finalize-requires-clause-least : goal.finalize-requires-clause-least
finalize-requires-clause-least c =
    let has : Has c.args.self.now c.self.inside c.deref.result.now = has_at c.deref.ensures c.self.view_is c.self.invariant.sound in
    reads_by c.self.inside.keeper.face.state (settings_of c.deref.result.now) c.self.inside.pass c.self.inside.next c.deref.result.now.checked.counts.callers_low
    has.fit.holds
