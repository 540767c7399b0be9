use Rattle.ert_defs.specs.declared.entry.Actor.TheVariants.{Caller}
use Rattle.ert_effects.specs.ClockCalls.{TellsOffset}
use Rattle.ert_shard.proofs.Ticked.{alone_made, offset_told}
use Rattle.ert_table.specs.Desks.{settings_of}
use Rattle.ert_world.proofs.Calm.{offset_quiet}
use Rattle.ert_world.specs.Parts.{parts_of}
use Rattle.ert_shard.proofs.hub.Hub.time_offset.Goals as goal

pub invariant_of-self : goal.invariant_of-self
invariant_of-self c =
    let b = c.self.inside in (
      (alone_made c.args.self.now c.deref.result.now _ b.pass c.time_offset.new.self b.left b.first b.next b.homes.items (parts_of b.keeper b.wheels.items b.inboxes.items b.mails.items b.scheds.items)
          (λ g. TellsOffset g (Caller 0) c.time_offset.result) c.deref.ensures c.self.view_is c.self.invariant.0 c.time_offset.ensures.belongs c.time_offset.ensures.call
          (λ st es is. (offset_quiet (settings_of c.deref.result.now) (Caller 0) c.time_offset.result st es is).only)).fit,
      c.self.invariant.1,
      c.self.invariant.2,
    )

pub returns-clause-call : goal.returns-clause-call
returns-clause-call c =
    let b = c.self.inside in
    (alone_made c.args.self.now c.deref.result.now _ b.pass c.time_offset.new.self b.left b.first b.next b.homes.items (parts_of b.keeper b.wheels.items b.inboxes.items b.mails.items b.scheds.items)
    (λ g. TellsOffset g (Caller 0) c.time_offset.result) c.deref.ensures c.self.view_is c.self.invariant.0 c.time_offset.ensures.belongs c.time_offset.ensures.call
    (λ st es is. (offset_quiet (settings_of c.deref.result.now) (Caller 0) c.time_offset.result st es is).only)).steps

pub returns-clause-value : goal.returns-clause-value
returns-clause-value c =
    let b = c.self.inside in
    (offset_told c.args.self.now c.deref.result.now _ b.pass c.time_offset.new.self b.left b.first b.next b.homes.items (parts_of b.keeper b.wheels.items b.inboxes.items b.mails.items b.scheds.items) c.deref.ensures
    c.self.view_is c.self.invariant.0 c.time_offset.result c.time_offset.ensures.call).0

pub returns-clause-state : goal.returns-clause-state
returns-clause-state c =
    let b = c.self.inside in
    (offset_told c.args.self.now c.deref.result.now _ b.pass c.time_offset.new.self b.left b.first b.next b.homes.items (parts_of b.keeper b.wheels.items b.inboxes.items b.mails.items b.scheds.items) c.deref.ensures
    c.self.view_is c.self.invariant.0 c.time_offset.result c.time_offset.ensures.call).1
