use Rattle.std.proofs.Common.{◌+◌, ◌-◌}
use Rattle.ert_effects.specs.MailCalls.{Takes}
use Rattle.ert_mail.proofs.LawsHold.{takes_only}
use Rattle.ert_world.specs.Stepping.{turns_same}
use Rattle.ert_shard.proofs.Called.{mail_stepped}
use Rattle.ert_shard.specs.Shards.{share_of, shard_parts_of}
use Rattle.ert_table.specs.Desks.{settings_of}
use Rattle.ert_world.proofs.Listed.{listed_kept, taken_less}
use Rattle.ert_shard.proofs.shard.Shard.take.Goals as goal

pub invariant_of-self : goal.invariant_of-self
invariant_of-self c =
    let b = c.self.inside in
    let s = share_of b.number b.from b.to in
    (mail_stepped c.args.self.now c.deref.result.now _ b.pass c.take.new.pass s (shard_parts_of b.wheel b.inbox b.sched b.mails.items b.list) b.list c.args.process c.index_mut.result.now c.take.new.self
    (λ m n g. Takes g (m + 1) n c.take.result) c.deref.ensures c.self.view_is c.self.invariant c.take.ensures.belongs c.requires c.index_mut.ensures.value c.take.ensures.process c.take.ensures.stands
    (λ legal. c.take.ensures.call) (λ n. takes_only (settings_of c.deref.result.now) (b.number + 1) n c.take.result)
    (turns_same b.list, λ st all low. listed_kept st b.list b.mails.items (c.args.process - b.from) c.index_mut.result.now c.take.new.self all low c.index_mut.ensures.value (taken_less c.index_mut.result.now.held.queue c.take.new.self.held.queue c.take.result c.take.ensures.taken))).fit

pub returns : goal.returns
returns c =
    let b = c.self.inside in
    let s = share_of b.number b.from b.to in
    (mail_stepped c.args.self.now c.deref.result.now _ b.pass c.take.new.pass s (shard_parts_of b.wheel b.inbox b.sched b.mails.items b.list) b.list c.args.process c.index_mut.result.now c.take.new.self
    (λ m n g. Takes g (m + 1) n c.take.result) c.deref.ensures c.self.view_is c.self.invariant c.take.ensures.belongs c.requires c.index_mut.ensures.value c.take.ensures.process c.take.ensures.stands
    (λ legal. c.take.ensures.call) (λ n. takes_only (settings_of c.deref.result.now) (b.number + 1) n c.take.result)
    (turns_same b.list, λ st all low. listed_kept st b.list b.mails.items (c.args.process - b.from) c.index_mut.result.now c.take.new.self all low c.index_mut.ensures.value (taken_less c.index_mut.result.now.held.queue c.take.new.self.held.queue c.take.result c.take.ensures.taken))).steps
