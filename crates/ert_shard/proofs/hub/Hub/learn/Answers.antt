use Rattle.std.proofs.Common.{[], ◌∷◌}
use Rattle.ert_defs.specs.declared.entry.Actor.TheVariants.{Caller}
use Rattle.ert_shard.proofs.Ticked.{alone_made}
use Rattle.ert_table.specs.Desks.{settings_of, view_of}
use Rattle.ert_world.proofs.Noted.{learned_made, none_quiet}
use Rattle.ert_world.specs.{Parts.parts_of, Ways.MakesNone}
use Rattle.ert_shard.proofs.hub.Hub.learn.Goals as goal

pub invariant_of-self : goal.invariant_of-self
invariant_of-self c =
    let b = c.self.inside in
    let d = c.deref.result.now in
    let made = learned_made (settings_of d) (view_of b.pass) c.args.note.front (view_of c.learn.new.self) c.learn.ensures.learned in (
      (alone_made c.args.self.now d _ b.pass c.learn.new.self b.left b.first b.next b.homes.items (parts_of b.keeper b.wheels.items b.inboxes.items b.mails.items b.scheds.items)
          MakesNone c.deref.ensures c.self.view_is c.self.invariant.0 c.learn.ensures.belongs made
          (λ st es is. (none_quiet (settings_of d) (Caller 0 ∷ []) st es is).only)).fit,
      c.self.invariant.1,
      c.self.invariant.2,
    )

pub returns-clause-call : goal.returns-clause-call
returns-clause-call c =
    let b = c.self.inside in
    let d = c.deref.result.now in
    let made = learned_made (settings_of d) (view_of b.pass) c.args.note.front (view_of c.learn.new.self) c.learn.ensures.learned in
    (alone_made c.args.self.now d _ b.pass c.learn.new.self b.left b.first b.next b.homes.items (parts_of b.keeper b.wheels.items b.inboxes.items b.mails.items b.scheds.items)
    MakesNone c.deref.ensures c.self.view_is c.self.invariant.0 c.learn.ensures.belongs made
    (λ st es is. (none_quiet (settings_of d) (Caller 0 ∷ []) st es is).only)).steps
