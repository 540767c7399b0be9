use Rattle.std.proofs.Common.{sym, subst}
use Rattle.ert_effects.specs.ClockCalls.{Finalizes}
use Rattle.ert_shard.specs.Hubs.{IsRest}
use Rattle.ert_shard.proofs.Ticked.{ticked, reads_by}
use Rattle.ert_table.specs.{Desks.settings_of, declared.desk.Desk.Desk}
use Rattle.ert_world.proofs.Calm.{finalizes_quiet}
use Rattle.ert_world.specs.Parts.{parts_of}
use Rattle.ert_shard.proofs.hub.Hub.finalize.Goals as goal

pub invariant_of-self : goal.invariant_of-self
invariant_of-self c =
    let b = c.self.inside in (
      (ticked c.args.self.now c.deref.result.now _ b.pass c.finalize.new.pass b.left b.first b.next b.homes.items (parts_of b.keeper b.wheels.items b.inboxes.items b.mails.items b.scheds.items) c.finalize.new.self
          (λ g. Finalizes g 0 c.args.reading c.finalize.result) c.deref.ensures c.self.view_is c.self.invariant.0 c.finalize.ensures.belongs c.finalize.ensures.stands c.finalize.ensures.call
          (λ st es is. (finalizes_quiet (settings_of c.deref.result.now) 0 c.args.reading c.finalize.result st es is).only)).fit,
      c.self.invariant.1,
      c.self.invariant.2,
    )

pub returns-clause-call : goal.returns-clause-call
returns-clause-call c =
    let b = c.self.inside in
    (ticked c.args.self.now c.deref.result.now _ b.pass c.finalize.new.pass b.left b.first b.next b.homes.items (parts_of b.keeper b.wheels.items b.inboxes.items b.mails.items b.scheds.items) c.finalize.new.self
    (λ g. Finalizes g 0 c.args.reading c.finalize.result) c.deref.ensures c.self.view_is c.self.invariant.0 c.finalize.ensures.belongs c.finalize.ensures.stands c.finalize.ensures.call
    (λ st es is. (finalizes_quiet (settings_of c.deref.result.now) 0 c.args.reading c.finalize.result st es is).only)).goes

pub finalize-requires-clause-least : goal.finalize-requires-clause-least
finalize-requires-clause-least c =
    let b = c.self.inside in
    reads_by b.keeper.face.state c.deref.result.now b.pass b.left b.first b.next b.homes.items (parts_of b.keeper b.wheels.items b.inboxes.items b.mails.items b.scheds.items)
    (subst (λ (d : Desk). IsRest d b.pass b.left b.first b.next b.homes.items (parts_of b.keeper b.wheels.items b.inboxes.items b.mails.items b.scheds.items)) (sym c.deref.ensures) c.self.invariant.0)
