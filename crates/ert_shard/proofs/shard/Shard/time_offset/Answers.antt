use Rattle.std.proofs.Common.{◌+◌}
use Rattle.ert_defs.specs.declared.entry.Actor.TheVariants.{Caller}
use Rattle.ert_effects.specs.ClockCalls.{TellsOffset}
use Rattle.ert_shard.proofs.Called.{alone_called}
use Rattle.ert_shard.specs.Shards.{share_of, shard_parts_of}
use Rattle.ert_table.specs.Desks.{settings_of}
use Rattle.ert_world.proofs.Calm.{offset_quiet}
use Rattle.ert_shard.proofs.shard.Shard.time_offset.Goals as goal

pub invariant_of-self : goal.invariant_of-self
invariant_of-self c =
    let b = c.self.inside in
    let s = share_of b.number b.from b.to in
    (alone_called c.args.self.now c.deref.result.now _ b.pass c.time_offset.new.self s (shard_parts_of b.wheel b.inbox b.sched b.mails.items b.list)
    (λ m g. TellsOffset g (Caller (m + 1)) c.time_offset.result) c.deref.ensures c.self.view_is c.self.invariant c.time_offset.ensures.belongs c.time_offset.ensures.call
    (λ st es is. (offset_quiet (settings_of c.deref.result.now) (Caller (b.number + 1)) c.time_offset.result st es is).only)).fit

pub returns : goal.returns
returns c =
    let b = c.self.inside in
    let s = share_of b.number b.from b.to in
    (alone_called c.args.self.now c.deref.result.now _ b.pass c.time_offset.new.self s (shard_parts_of b.wheel b.inbox b.sched b.mails.items b.list)
    (λ m g. TellsOffset g (Caller (m + 1)) c.time_offset.result) c.deref.ensures c.self.view_is c.self.invariant c.time_offset.ensures.belongs c.time_offset.ensures.call
    (λ st es is. (offset_quiet (settings_of c.deref.result.now) (Caller (b.number + 1)) c.time_offset.result st es is).only)).steps
