use Rattle.ert_defs.specs.declared.entry.Actor.TheVariants.{Caller}
use Rattle.ert_effects.specs.TimerCalls.{Reads}
use Rattle.ert_shard.proofs.Ticked.{alone_made}
use Rattle.ert_table.specs.Desks.{settings_of}
use Rattle.ert_world.proofs.Calm.{read_quiet}
use Rattle.ert_world.specs.Parts.{parts_of}
use Rattle.ert_shard.proofs.hub.Hub.read_timer.Goals as goal

pub invariant_of-self : goal.invariant_of-self
invariant_of-self c =
    let b = c.self.inside in (
      (alone_made c.args.self.now c.deref.result.now _ b.pass c.read_timer.new.self b.left b.first b.next b.homes.items (parts_of b.keeper b.wheels.items b.inboxes.items b.mails.items b.scheds.items)
          (λ g. Reads g (Caller 0) c.args.timer c.read_timer.result) c.deref.ensures c.self.view_is c.self.invariant.0 c.read_timer.ensures.belongs c.read_timer.ensures.call.call
          (λ st es is. (read_quiet (settings_of c.deref.result.now) (Caller 0) c.args.timer c.read_timer.result st es is).only)).fit,
      c.self.invariant.1,
      c.self.invariant.2,
    )

pub returns : goal.returns
returns c =
    let b = c.self.inside in
    (alone_made c.args.self.now c.deref.result.now _ b.pass c.read_timer.new.self b.left b.first b.next b.homes.items (parts_of b.keeper b.wheels.items b.inboxes.items b.mails.items b.scheds.items)
    (λ g. Reads g (Caller 0) c.args.timer c.read_timer.result) c.deref.ensures c.self.view_is c.self.invariant.0 c.read_timer.ensures.belongs c.read_timer.ensures.call.call
    (λ st es is. (read_quiet (settings_of c.deref.result.now) (Caller 0) c.args.timer c.read_timer.result st es is).only)).steps
