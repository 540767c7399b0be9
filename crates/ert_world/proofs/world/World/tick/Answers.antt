use Rattle.ert_effects.specs.ClockCalls.{Ticks}
use Rattle.ert_clock.specs.Ticks.{act_of}
use Rattle.ert_table.specs.Desks.{settings_of}
use Rattle.ert_world.proofs.{Calm.acts_quiet, Calls.keeper_called, Listed.kept_by}
use Rattle.ert_world.proofs.world.World.tick.Goals as goal

pub invariant_of-self : goal.invariant_of-self
invariant_of-self c =
    let all =
    ((keeper_called c.args.self.now c.self.inside c.deref.result.now _ c.tick.new.pass c.tick.new.self (λ g. Ticks g 0 c.args.reading c.args.force c.tick.result) c.deref.ensures c.self.view_is c.self.invariant.sound
    c.tick.ensures.belongs c.tick.ensures.stands c.tick.ensures.call (acts_quiet (settings_of c.deref.result.now) 0 c.args.reading (act_of c.args.force) c.tick.result))) in
    kept_by c.self.inside c.self.inside.list c.self.view_is all.fit all.goes.grows c.self.invariant.listed

pub returns-clause-call : goal.returns-clause-call
returns-clause-call c =
    (keeper_called c.args.self.now c.self.inside c.deref.result.now _ c.tick.new.pass c.tick.new.self (λ g. Ticks g 0 c.args.reading c.args.force c.tick.result) c.deref.ensures c.self.view_is c.self.invariant.sound
    c.tick.ensures.belongs c.tick.ensures.stands c.tick.ensures.call (acts_quiet (settings_of c.deref.result.now) 0 c.args.reading (act_of c.args.force) c.tick.result)).goes
