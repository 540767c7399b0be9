use Rattle.std.proofs.Common.{◌+◌, ◌-◌, ◌∙◌}
use Rattle.ert_effects.specs.MailCalls.{Demonitors}
use Rattle.ert_mail.proofs.LawsHold.{demonitors_only}
use Rattle.ert_world.specs.Stepping.{turns_same}
use Rattle.ert_shard.proofs.Called.{mail_stepped}
use Rattle.ert_shard.specs.Shards.{share_of, shard_parts_of}
use Rattle.ert_table.specs.Desks.{settings_of}
use Rattle.ert_world.proofs.Listed.{listed_kept}
use Rattle.ert_shard.proofs.shard.Shard.demonitor.Goals as goal

pub invariant_of-self : goal.invariant_of-self
invariant_of-self c =
    let b = c.self.inside in
    let s = share_of b.number b.from b.to in
    (mail_stepped c.args.self.now c.deref.result.now _ b.pass c.demonitor.new.pass s (shard_parts_of b.wheel b.inbox b.sched b.mails.items b.list) b.list c.args.process c.index_mut-mail.result.now c.demonitor.new.self
    (λ m n g. Demonitors g (m + 1) n c.args.monitor c.demonitor.result) c.deref.ensures c.self.view_is c.self.invariant c.demonitor.ensures.belongs c.requires c.index_mut-mail.ensures.value c.demonitor.ensures.process c.demonitor.ensures.stands
    (λ legal. c.demonitor.ensures.call) (λ n. demonitors_only (settings_of c.deref.result.now) (b.number + 1) n c.args.monitor c.demonitor.result)
    (turns_same b.list, λ st all low. listed_kept st b.list b.mails.items (c.args.process - b.from) c.index_mut-mail.result.now c.demonitor.new.self all low c.index_mut-mail.ensures.value (λ some none. some (c.demonitor.ensures.queue ∙ none)))).fit

pub returns : goal.returns
returns c =
    let b = c.self.inside in
    let s = share_of b.number b.from b.to in
    (mail_stepped c.args.self.now c.deref.result.now _ b.pass c.demonitor.new.pass s (shard_parts_of b.wheel b.inbox b.sched b.mails.items b.list) b.list c.args.process c.index_mut-mail.result.now c.demonitor.new.self
    (λ m n g. Demonitors g (m + 1) n c.args.monitor c.demonitor.result) c.deref.ensures c.self.view_is c.self.invariant c.demonitor.ensures.belongs c.requires c.index_mut-mail.ensures.value c.demonitor.ensures.process c.demonitor.ensures.stands
    (λ legal. c.demonitor.ensures.call) (λ n. demonitors_only (settings_of c.deref.result.now) (b.number + 1) n c.args.monitor c.demonitor.result)
    (turns_same b.list, λ st all low. listed_kept st b.list b.mails.items (c.args.process - b.from) c.index_mut-mail.result.now c.demonitor.new.self all low c.index_mut-mail.ensures.value (λ some none. some (c.demonitor.ensures.queue ∙ none)))).steps
