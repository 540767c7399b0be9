use Rattle.std.proofs.Common.{◌+◌, ◌-◌, ◌∙◌}
use Rattle.ert_effects.specs.MailCalls.{Monitors}
use Rattle.ert_mail.proofs.{LawsHold.monitors_only, Watchings.monitor_made}
use Rattle.ert_world.specs.Stepping.{turns_same}
use Rattle.ert_shard.proofs.Called.{mail_stepped}
use Rattle.ert_shard.specs.Shards.{share_of, shard_parts_of}
use Rattle.ert_table.specs.Desks.{settings_of, view_of}
use Rattle.ert_world.proofs.Listed.{listed_kept}
use Rattle.ert_shard.proofs.shard.Shard.monitor.Goals as goal

pub invariant_of-self : goal.invariant_of-self
invariant_of-self c =
    let b = c.self.inside in
    let s = share_of b.number b.from b.to in
    (mail_stepped c.args.self.now c.deref.result.now _ b.pass c.monitor.new.pass s (shard_parts_of b.wheel b.inbox b.sched b.mails.items b.list) b.list c.args.process c.index_mut.result.now c.monitor.new.self
    (λ m n g. Monitors g (m + 1) n c.monitor.result) c.deref.ensures c.self.view_is c.self.invariant c.monitor.ensures.belongs c.requires c.index_mut.ensures.value c.monitor.ensures.process c.monitor.ensures.stands
    (λ legal. monitor_made (settings_of c.deref.result.now) (view_of b.pass) (b.number + 1) c.index_mut.result.now.process c.monitor.result (view_of c.monitor.new.pass) legal c.monitor.ensures.call) (λ n. monitors_only (settings_of c.deref.result.now) (b.number + 1) n c.monitor.result)
    (turns_same b.list, λ st all low. listed_kept st b.list b.mails.items (c.args.process - b.from) c.index_mut.result.now c.monitor.new.self all low c.index_mut.ensures.value (λ some none. some (c.monitor.ensures.queue ∙ none)))).fit

pub returns : goal.returns
returns c =
    let b = c.self.inside in
    let s = share_of b.number b.from b.to in
    (mail_stepped c.args.self.now c.deref.result.now _ b.pass c.monitor.new.pass s (shard_parts_of b.wheel b.inbox b.sched b.mails.items b.list) b.list c.args.process c.index_mut.result.now c.monitor.new.self
    (λ m n g. Monitors g (m + 1) n c.monitor.result) c.deref.ensures c.self.view_is c.self.invariant c.monitor.ensures.belongs c.requires c.index_mut.ensures.value c.monitor.ensures.process c.monitor.ensures.stands
    (λ legal. monitor_made (settings_of c.deref.result.now) (view_of b.pass) (b.number + 1) c.index_mut.result.now.process c.monitor.result (view_of c.monitor.new.pass) legal c.monitor.ensures.call) (λ n. monitors_only (settings_of c.deref.result.now) (b.number + 1) n c.monitor.result)
    (turns_same b.list, λ st all low. listed_kept st b.list b.mails.items (c.args.process - b.from) c.index_mut.result.now c.monitor.new.self all low c.index_mut.ensures.value (λ some none. some (c.monitor.ensures.queue ∙ none)))).steps
