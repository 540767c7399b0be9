use Rattle.std.proofs.Common.{refl, ap}
use Rattle.std.specs.Arc.{arc_value}
use Rattle.ert_effects.specs.MailCalls.{Notifies}
use Rattle.ert_mail.proofs.LawsHold.{notifies_only}
use Rattle.ert_table.specs.Desks.{settings_of, view_of, state_of}
use Rattle.ert_table.proofs.Makings.{if_ok_made}
use Rattle.ert_world.proofs.{Calls.{has_at, mail_called}, Listed.{list_low, listed_now, mails_low, kept_by, relisted, turns_put}, Calm.notifies_calm}
use Rattle.ert_world.specs.Worlds.{Seen}
use Rattle.ert_world.proofs.world.World.notify.Goals as goal

pub may_get_mail-requires : goal.may_get_mail-requires
may_get_mail-requires c =
    list_low (state_of (arc_value c.self.inside.desk) c.self.inside.pass) c.self.inside.list c.self.inside.mails.items c.args.process c.self.invariant.listed
    (mails_low c.args.self.now c.self.inside _ c.args.process (has_at refl c.self.view_is c.self.invariant.sound) c.requires)

pub invariant_of-self : goal.invariant_of-self
invariant_of-self c =
    let all =
    ((mail_called c.args.self.now c.self.inside c.deref.result.now _ c.notify.new.pass c.args.process c.index_mut.result.now c.notify.new.self (λ n g. Notifies g 0 n c.notify.result)
    c.deref.ensures c.self.view_is c.self.invariant.sound c.notify.ensures.belongs c.requires c.index_mut.ensures.value c.notify.ensures.process c.notify.ensures.stands
    (λ legal. if_ok_made (settings_of c.deref.result.now) (view_of c.self.inside.pass) (Notifies (settings_of c.deref.result.now) 0 c.index_mut.result.now.process) c.notify.result (view_of c.notify.new.pass) legal c.notify.ensures.call)
    (notifies_only (settings_of c.deref.result.now) 0 c.index_mut.result.now.process c.notify.result) (notifies_calm (settings_of c.deref.result.now) 0 c.index_mut.result.now.process c.notify.result))) in
    kept_by c.self.inside c.may_get_mail.new.list c.self.view_is all.fit all.goes.grows
    (listed_now (state_of (arc_value c.self.inside.desk) c.self.inside.pass) c.self.inside.list c.may_get_mail.new.list c.self.inside.mails.items c.args.process c.notify.new.self c.may_get_mail.ensures c.self.invariant.listed
    (mails_low c.args.self.now c.self.inside c.deref.result.now c.args.process (has_at c.deref.ensures c.self.view_is c.self.invariant.sound) c.requires))

pub returns : goal.returns
returns c =
    record {
      call =
          (relisted c.may_get_mail.new.list (turns_put c.args.self.now c.self.inside.list c.may_get_mail.new.list c.args.process (ap (λ (w : Seen). w.turns) c.self.view_is) c.may_get_mail.ensures)
          (mail_called c.args.self.now c.self.inside c.deref.result.now _ c.notify.new.pass c.args.process c.index_mut.result.now c.notify.new.self (λ n g. Notifies g 0 n c.notify.result)
          c.deref.ensures c.self.view_is c.self.invariant.sound c.notify.ensures.belongs c.requires c.index_mut.ensures.value c.notify.ensures.process c.notify.ensures.stands
          (λ legal. if_ok_made (settings_of c.deref.result.now) (view_of c.self.inside.pass) (Notifies (settings_of c.deref.result.now) 0 c.index_mut.result.now.process) c.notify.result (view_of c.notify.new.pass) legal c.notify.ensures.call)
          (notifies_only (settings_of c.deref.result.now) 0 c.index_mut.result.now.process c.notify.result) (notifies_calm (settings_of c.deref.result.now) 0 c.index_mut.result.now.process c.notify.result))).goes;
    }
