use Rattle.std.proofs.Common.{◌∙◌}
use Rattle.std.specs.Arc.{arc_value}
use Rattle.ert_effects.specs.MailCalls.{Demonitors}
use Rattle.ert_mail.proofs.LawsHold.{demonitors_only}
use Rattle.ert_table.specs.Desks.{settings_of, state_of}
use Rattle.ert_world.proofs.{Calls.{has_at, mail_called}, Listed.{listed_kept, mails_low, kept_by}, Calm.demonitors_calm}
use Rattle.ert_world.proofs.world.World.demonitor.Goals as goal

pub invariant_of-self : goal.invariant_of-self
invariant_of-self c =
    let all =
    ((mail_called c.args.self.now c.self.inside c.deref.result.now _ c.demonitor.new.pass c.args.process c.index_mut.result.now c.demonitor.new.self (λ n g. Demonitors g 0 n c.args.monitor c.demonitor.result)
    c.deref.ensures c.self.view_is c.self.invariant.sound c.demonitor.ensures.belongs c.requires c.index_mut.ensures.value c.demonitor.ensures.process c.demonitor.ensures.stands
    (λ legal. c.demonitor.ensures.call)
    (demonitors_only (settings_of c.deref.result.now) 0 c.index_mut.result.now.process c.args.monitor c.demonitor.result) (demonitors_calm (settings_of c.deref.result.now) 0 c.index_mut.result.now.process c.args.monitor c.demonitor.result))) in
    kept_by c.self.inside c.self.inside.list c.self.view_is all.fit all.goes.grows
    (listed_kept (state_of (arc_value c.self.inside.desk) c.self.inside.pass) c.self.inside.list c.self.inside.mails.items c.args.process c.index_mut.result.now c.demonitor.new.self c.self.invariant.listed
    (mails_low c.args.self.now c.self.inside c.deref.result.now c.args.process (has_at c.deref.ensures c.self.view_is c.self.invariant.sound) c.requires) c.index_mut.ensures.value
    (λ some none. some (c.demonitor.ensures.queue ∙ none)))

pub returns : goal.returns
returns c =
    record {
      call =
          (mail_called c.args.self.now c.self.inside c.deref.result.now _ c.demonitor.new.pass c.args.process c.index_mut.result.now c.demonitor.new.self (λ n g. Demonitors g 0 n c.args.monitor c.demonitor.result)
          c.deref.ensures c.self.view_is c.self.invariant.sound c.demonitor.ensures.belongs c.requires c.index_mut.ensures.value c.demonitor.ensures.process c.demonitor.ensures.stands
          (λ legal. c.demonitor.ensures.call)
          (demonitors_only (settings_of c.deref.result.now) 0 c.index_mut.result.now.process c.args.monitor c.demonitor.result) (demonitors_calm (settings_of c.deref.result.now) 0 c.index_mut.result.now.process c.args.monitor c.demonitor.result)).goes;
    }
