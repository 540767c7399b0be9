use Rattle.ert_clock.specs.Ticks.{act_of}
use Rattle.ert_effects.specs.ClockCalls.{Ticks}
use Rattle.ert_shard.proofs.Ticked.{ticked}
use Rattle.ert_table.specs.Desks.{settings_of}
use Rattle.ert_world.proofs.Calm.{acts_quiet}
use Rattle.ert_world.specs.Parts.{parts_of}
use Rattle.ert_shard.proofs.hub.Hub.tick.Goals as goal

pub invariant_of-self : goal.invariant_of-self
invariant_of-self c =
    let b = c.self.inside in (
      (ticked c.args.self.now c.deref.result.now _ b.pass c.tick.new.pass b.left b.first b.next b.homes.items (parts_of b.keeper b.wheels.items b.inboxes.items b.mails.items b.scheds.items) c.tick.new.self
          (λ g. Ticks g 0 c.args.reading c.args.force c.tick.result) c.deref.ensures c.self.view_is c.self.invariant.0 c.tick.ensures.belongs c.tick.ensures.stands c.tick.ensures.call
          (λ st es is. (acts_quiet (settings_of c.deref.result.now) 0 c.args.reading (act_of c.args.force) c.tick.result st es is).only)).fit,
      c.self.invariant.1,
      c.self.invariant.2,
    )

pub returns-clause-call : goal.returns-clause-call
returns-clause-call c =
    let b = c.self.inside in
    (ticked c.args.self.now c.deref.result.now _ b.pass c.tick.new.pass b.left b.first b.next b.homes.items (parts_of b.keeper b.wheels.items b.inboxes.items b.mails.items b.scheds.items) c.tick.new.self
    (λ g. Ticks g 0 c.args.reading c.args.force c.tick.result) c.deref.ensures c.self.view_is c.self.invariant.0 c.tick.ensures.belongs c.tick.ensures.stands c.tick.ensures.call
    (λ st es is. (acts_quiet (settings_of c.deref.result.now) 0 c.args.reading (act_of c.args.force) c.tick.result st es is).only)).goes
