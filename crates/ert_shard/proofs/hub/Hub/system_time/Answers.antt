use Rattle.std.proofs.Common.{rules, FitsSigned, w64, to_z-of_z}
use Rattle.ert_defs.specs.declared.entry.Actor.TheVariants.{Caller}
use Rattle.ert_effects.specs.ClockCalls.{TellsSystemTime}
use Rattle.ert_shard.proofs.Ticked.{alone_made, system_told}
use Rattle.ert_table.specs.Desks.{settings_of}
use Rattle.ert_world.proofs.Calm.{system_quiet}
use Rattle.ert_world.specs.Parts.{parts_of}
use Rattle.ert_shard.proofs.hub.Hub.system_time.Goals as goal

pub invariant_of-self : goal.invariant_of-self
invariant_of-self c =
    let b = c.self.inside in (
      (alone_made c.args.self.now c.deref.result.now _ b.pass c.system_time.new.self b.left b.first b.next b.homes.items (parts_of b.keeper b.wheels.items b.inboxes.items b.mails.items b.scheds.items)
          (λ g. TellsSystemTime g (Caller 0) c.system_time.result) c.deref.ensures c.self.view_is c.self.invariant.0 c.system_time.ensures.belongs c.system_time.ensures.call
          (λ st es is. (system_quiet (settings_of c.deref.result.now) (Caller 0) c.system_time.result st es is).only)).fit,
      c.self.invariant.1,
      c.self.invariant.2,
    )

pub returns-clause-call : goal.returns-clause-call
returns-clause-call c =
    let b = c.self.inside in
    let fits : FitsSigned w64 c.system_time.result = search rules in
    simp to_z-of_z
    (alone_made c.args.self.now c.deref.result.now _ b.pass c.system_time.new.self b.left b.first b.next b.homes.items (parts_of b.keeper b.wheels.items b.inboxes.items b.mails.items b.scheds.items)
    (λ g. TellsSystemTime g (Caller 0) c.system_time.result) c.deref.ensures c.self.view_is c.self.invariant.0 c.system_time.ensures.belongs c.system_time.ensures.call
    (λ st es is. (system_quiet (settings_of c.deref.result.now) (Caller 0) c.system_time.result st es is).only)).steps

pub returns-clause-value : goal.returns-clause-value
returns-clause-value c =
    let b = c.self.inside in
    let fits : FitsSigned w64 c.system_time.result = search rules in
    simp to_z-of_z (system_told c.args.self.now c.deref.result.now _ b.pass c.system_time.new.self b.left b.first b.next b.homes.items (parts_of b.keeper b.wheels.items b.inboxes.items b.mails.items b.scheds.items) c.deref.ensures
    c.self.view_is c.self.invariant.0 c.system_time.result c.system_time.ensures.call)
