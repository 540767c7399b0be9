use Rattle.std.proofs.Common.{◌+◌}
use Rattle.ert_effects.specs.RequestCalls.{Asks}
use Rattle.ert_shard.proofs.Requested.{asked}
use Rattle.ert_shard.specs.Shards.{share_of, shard_parts_of}
use Rattle.ert_table.specs.Desks.{settings_of, view_of}
use Rattle.ert_table.proofs.Makings.{if_ok_made}
use Rattle.ert_shard.proofs.shard.Shard.ask.Goals as goal

pub invariant_of-self : goal.invariant_of-self
invariant_of-self c =
    let b = c.self.inside in
    let s = share_of b.number b.from b.to in
    (asked c.args.self.now c.deref.result.now _ b.pass c.ask.new.pass s (shard_parts_of b.wheel b.inbox b.sched b.mails.items b.list) c.ask.new.self c.args.request c.ask.result
    c.deref.ensures c.self.view_is c.self.invariant c.ask.ensures.belongs c.ask.ensures.wheel c.ask.ensures.stands
    (λ legal. if_ok_made (settings_of c.deref.result.now) (view_of b.pass) (Asks (settings_of c.deref.result.now) (b.number + 1) b.inbox.wheel c.args.request) c.ask.result (view_of c.ask.new.pass) legal c.ask.ensures.call)).fit

pub returns : goal.returns
returns c =
    let b = c.self.inside in
    let s = share_of b.number b.from b.to in
    (asked c.args.self.now c.deref.result.now _ b.pass c.ask.new.pass s (shard_parts_of b.wheel b.inbox b.sched b.mails.items b.list) c.ask.new.self c.args.request c.ask.result
    c.deref.ensures c.self.view_is c.self.invariant c.ask.ensures.belongs c.ask.ensures.wheel c.ask.ensures.stands
    (λ legal. if_ok_made (settings_of c.deref.result.now) (view_of b.pass) (Asks (settings_of c.deref.result.now) (b.number + 1) b.inbox.wheel c.args.request) c.ask.result (view_of c.ask.new.pass) legal c.ask.ensures.call)).steps
