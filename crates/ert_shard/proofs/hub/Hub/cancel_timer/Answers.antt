use Rattle.ert_defs.specs.declared.entry.Actor.TheVariants.{Caller}
use Rattle.ert_effects.specs.TimerCalls.{Cancels}
use Rattle.ert_shard.proofs.Ticked.{alone_made}
use Rattle.ert_table.specs.Desks.{settings_of}
use Rattle.ert_world.proofs.Cancelled.{cancel_only}
use Rattle.ert_world.specs.Parts.{parts_of}
use Rattle.ert_shard.proofs.hub.Hub.cancel_timer.Goals as goal

pub invariant_of-self : goal.invariant_of-self
invariant_of-self c =
    let b = c.self.inside in (
      (alone_made c.args.self.now c.deref.result.now _ b.pass c.cancel_timer.new.self b.left b.first b.next b.homes.items (parts_of b.keeper b.wheels.items b.inboxes.items b.mails.items b.scheds.items)
          (λ g. Cancels g (Caller 0) c.args.timer c.cancel_timer.result) c.deref.ensures c.self.view_is c.self.invariant.0 c.cancel_timer.ensures.belongs c.cancel_timer.ensures.call.call
          (cancel_only (settings_of c.deref.result.now) (Caller 0) c.args.timer c.cancel_timer.result)).fit,
      c.self.invariant.1,
      c.self.invariant.2,
    )

pub returns : goal.returns
returns c =
    let b = c.self.inside in
    (alone_made c.args.self.now c.deref.result.now _ b.pass c.cancel_timer.new.self b.left b.first b.next b.homes.items (parts_of b.keeper b.wheels.items b.inboxes.items b.mails.items b.scheds.items)
    (λ g. Cancels g (Caller 0) c.args.timer c.cancel_timer.result) c.deref.ensures c.self.view_is c.self.invariant.0 c.cancel_timer.ensures.belongs c.cancel_timer.ensures.call.call
    (cancel_only (settings_of c.deref.result.now) (Caller 0) c.args.timer c.cancel_timer.result)).steps
