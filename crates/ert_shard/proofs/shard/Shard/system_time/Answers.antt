use Rattle.std.proofs.Common.{◌+◌, rules, FitsSigned, w64, to_z-of_z}
use Rattle.ert_defs.specs.declared.entry.Actor.TheVariants.{Caller}
use Rattle.ert_effects.specs.ClockCalls.{TellsSystemTime}
use Rattle.ert_shard.proofs.Called.{alone_called}
use Rattle.ert_shard.specs.Shards.{share_of, shard_parts_of}
use Rattle.ert_table.specs.Desks.{settings_of}
use Rattle.ert_world.proofs.Calm.{system_quiet}
use Rattle.ert_shard.proofs.shard.Shard.system_time.Goals as goal

pub invariant_of-self : goal.invariant_of-self
invariant_of-self c =
    let b = c.self.inside in
    let s = share_of b.number b.from b.to in
    (alone_called c.args.self.now c.deref.result.now _ b.pass c.system_time.new.self s (shard_parts_of b.wheel b.inbox b.sched b.mails.items b.list)
    (λ m g. TellsSystemTime g (Caller (m + 1)) c.system_time.result) c.deref.ensures c.self.view_is c.self.invariant c.system_time.ensures.belongs c.system_time.ensures.call
    (λ st es is. (system_quiet (settings_of c.deref.result.now) (Caller (b.number + 1)) c.system_time.result st es is).only)).fit

pub returns : goal.returns
returns c =
    let b = c.self.inside in
    let s = share_of b.number b.from b.to in
    let fits : FitsSigned w64 c.system_time.result = search rules in
    simp to_z-of_z
    (alone_called c.args.self.now c.deref.result.now _ b.pass c.system_time.new.self s (shard_parts_of b.wheel b.inbox b.sched b.mails.items b.list)
    (λ m g. TellsSystemTime g (Caller (m + 1)) c.system_time.result) c.deref.ensures c.self.view_is c.self.invariant c.system_time.ensures.belongs c.system_time.ensures.call
    (λ st es is. (system_quiet (settings_of c.deref.result.now) (Caller (b.number + 1)) c.system_time.result st es is).only)).steps
