use Rattle.std.proofs.Common.{[], ◌∷◌, ◌+◌}
use Rattle.ert_defs.specs.declared.entry.Actor.TheVariants.{Caller}
use Rattle.ert_shard.proofs.Called.{alone_called}
use Rattle.ert_shard.specs.Shards.{share_of, shard_parts_of}
use Rattle.ert_table.specs.Desks.{settings_of, view_of}
use Rattle.ert_world.proofs.Noted.{learned_made, none_quiet}
use Rattle.ert_world.specs.Ways.{MakesNone}
use Rattle.ert_shard.proofs.shard.Shard.learn.Goals as goal

pub invariant_of-self : goal.invariant_of-self
invariant_of-self c =
    let b = c.self.inside in
    let d = c.deref.result.now in
    let s = share_of b.number b.from b.to in
    let made = learned_made (settings_of d) (view_of b.pass) c.args.note.front (view_of c.learn.new.self) c.learn.ensures.learned in
    (alone_called c.args.self.now d _ b.pass c.learn.new.self s (shard_parts_of b.wheel b.inbox b.sched b.mails.items b.list)
    (λ m. MakesNone) c.deref.ensures c.self.view_is c.self.invariant c.learn.ensures.belongs made
    (λ st es is. (none_quiet (settings_of d) (Caller (b.number + 1) ∷ []) st es is).only)).fit

pub returns-clause-call : goal.returns-clause-call
returns-clause-call c =
    let b = c.self.inside in
    let d = c.deref.result.now in
    let s = share_of b.number b.from b.to in
    let made = learned_made (settings_of d) (view_of b.pass) c.args.note.front (view_of c.learn.new.self) c.learn.ensures.learned in
    (alone_called c.args.self.now d _ b.pass c.learn.new.self s (shard_parts_of b.wheel b.inbox b.sched b.mails.items b.list)
    (λ m. MakesNone) c.deref.ensures c.self.view_is c.self.invariant c.learn.ensures.belongs made
    (λ st es is. (none_quiet (settings_of d) (Caller (b.number + 1) ∷ []) st es is).only)).steps
