use Rattle.std.proofs.Common.{◌+◌, ◌-◌, sym, subst}
use Rattle.std.specs.Arc.{arc_value}
use Rattle.ert_effects.specs.MailCalls.{Notifies}
use Rattle.ert_mail.proofs.LawsHold.{notifies_only}
use Rattle.ert_shard.proofs.Called.{mail_stepped, place_low}
use Rattle.ert_shard.specs.Shards.{Owned, IsHome, counted_from, share_of, shard_parts_of}
use Rattle.ert_table.specs.Desks.{settings_of, view_of, state_of}
use Rattle.ert_table.proofs.Makings.{if_ok_made}
use Rattle.ert_world.proofs.Listed.{list_low, listed_now, listed_grown}
use Rattle.ert_shard.proofs.shard.Shard.notify.Goals as goal

pub may_get_mail-requires : goal.may_get_mail-requires
may_get_mail-requires c =
    let b = c.self.inside in
    let fit = c.self.invariant in
    list_low (counted_from b.from (state_of (arc_value b.desk) b.pass)) b.list b.mails.items (c.args.process - b.from) fit.stand.listed
    (place_low fit c.args.process (subst (λ (o : Owned). IsHome o.share c.args.process) (sym c.self.view_is) c.requires))

pub invariant_of-self : goal.invariant_of-self
invariant_of-self c =
    let b = c.self.inside in
    let s = share_of b.number b.from b.to in
    (mail_stepped c.args.self.now c.deref.result.now _ b.pass c.notify.new.pass s (shard_parts_of b.wheel b.inbox b.sched b.mails.items b.list) c.may_get_mail.new.list c.args.process c.index_mut.result.now c.notify.new.self
    (λ m n g. Notifies g (m + 1) n c.notify.result) c.deref.ensures c.self.view_is c.self.invariant c.notify.ensures.belongs c.requires c.index_mut.ensures.value c.notify.ensures.process c.notify.ensures.stands
    (λ legal. if_ok_made (settings_of c.deref.result.now) (view_of b.pass) (Notifies (settings_of c.deref.result.now) (b.number + 1) c.index_mut.result.now.process) c.notify.result (view_of c.notify.new.pass) legal c.notify.ensures.call) (λ n. notifies_only (settings_of c.deref.result.now) (b.number + 1) n c.notify.result)
    (listed_grown b.list c.may_get_mail.new.list (c.args.process - b.from) c.may_get_mail.ensures, λ st all low. listed_now st b.list c.may_get_mail.new.list b.mails.items (c.args.process - b.from) c.notify.new.self c.may_get_mail.ensures all low)).fit

pub returns : goal.returns
returns c =
    let b = c.self.inside in
    let s = share_of b.number b.from b.to in
    (mail_stepped c.args.self.now c.deref.result.now _ b.pass c.notify.new.pass s (shard_parts_of b.wheel b.inbox b.sched b.mails.items b.list) c.may_get_mail.new.list c.args.process c.index_mut.result.now c.notify.new.self
    (λ m n g. Notifies g (m + 1) n c.notify.result) c.deref.ensures c.self.view_is c.self.invariant c.notify.ensures.belongs c.requires c.index_mut.ensures.value c.notify.ensures.process c.notify.ensures.stands
    (λ legal. if_ok_made (settings_of c.deref.result.now) (view_of b.pass) (Notifies (settings_of c.deref.result.now) (b.number + 1) c.index_mut.result.now.process) c.notify.result (view_of c.notify.new.pass) legal c.notify.ensures.call) (λ n. notifies_only (settings_of c.deref.result.now) (b.number + 1) n c.notify.result)
    (listed_grown b.list c.may_get_mail.new.list (c.args.process - b.from) c.may_get_mail.ensures, λ st all low. listed_now st b.list c.may_get_mail.new.list b.mails.items (c.args.process - b.from) c.notify.new.self c.may_get_mail.ensures all low)).steps
