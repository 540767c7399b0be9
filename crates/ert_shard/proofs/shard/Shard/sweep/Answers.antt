use Rattle.ert_shard.proofs.{Called.{did_at, has_at}, Turned.sweep_called}
use Rattle.ert_shard.specs.Shards.{share_of, shard_parts_of}
use Rattle.ert_shard.proofs.shard.Shard.sweep.Goals as goal

pub invariant_of-self : goal.invariant_of-self
invariant_of-self c =
    let b = c.self.inside in
    (did_at c.deref.ensures (sweep_called c.args.self.now c.deref.result.now b.pass c.sweep.new.pass (share_of b.number b.from b.to) (shard_parts_of b.wheel b.inbox b.sched b.mails.items b.list) c.args.process c.sweep.new.self
    (has_at c.deref.ensures c.self.view_is c.self.invariant) c.sweep.ensures.belongs c.sweep.ensures.number c.sweep.ensures.stands c.sweep.ensures.loses c.sweep.ensures.call c.sweep.ensures.swept)).fit

pub returns : goal.returns
returns c =
    let b = c.self.inside in
    (did_at c.deref.ensures (sweep_called c.args.self.now c.deref.result.now b.pass c.sweep.new.pass (share_of b.number b.from b.to) (shard_parts_of b.wheel b.inbox b.sched b.mails.items b.list) c.args.process c.sweep.new.self
    (has_at c.deref.ensures c.self.view_is c.self.invariant) c.sweep.ensures.belongs c.sweep.ensures.number c.sweep.ensures.stands c.sweep.ensures.loses c.sweep.ensures.call c.sweep.ensures.swept)).steps
