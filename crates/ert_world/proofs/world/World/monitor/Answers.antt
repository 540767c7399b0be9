use Rattle.std.proofs.Common.{◌∙◌}
use Rattle.std.specs.Arc.{arc_value}
use Rattle.ert_effects.specs.MailCalls.{Monitors}
use Rattle.ert_mail.proofs.{LawsHold.monitors_only, Watchings.monitor_made}
use Rattle.ert_table.specs.Desks.{settings_of, view_of, state_of}
use Rattle.ert_world.proofs.{Calls.{has_at, mail_called}, Listed.{listed_kept, mails_low, kept_by}, Calm.monitors_calm}
use Rattle.ert_world.proofs.world.World.monitor.Goals as goal

pub invariant_of-self : goal.invariant_of-self
invariant_of-self c =
    let all =
    ((mail_called c.args.self.now c.self.inside c.deref.result.now _ c.monitor.new.pass c.args.process c.index_mut.result.now c.monitor.new.self (λ n g. Monitors g 0 n c.monitor.result)
    c.deref.ensures c.self.view_is c.self.invariant.sound c.monitor.ensures.belongs c.requires c.index_mut.ensures.value c.monitor.ensures.process c.monitor.ensures.stands
    (λ legal. monitor_made (settings_of c.deref.result.now) (view_of c.self.inside.pass) 0 c.index_mut.result.now.process c.monitor.result (view_of c.monitor.new.pass) legal c.monitor.ensures.call)
    (monitors_only (settings_of c.deref.result.now) 0 c.index_mut.result.now.process c.monitor.result) (monitors_calm (settings_of c.deref.result.now) 0 c.index_mut.result.now.process c.monitor.result))) in
    kept_by c.self.inside c.self.inside.list c.self.view_is all.fit all.goes.grows
    (listed_kept (state_of (arc_value c.self.inside.desk) c.self.inside.pass) c.self.inside.list c.self.inside.mails.items c.args.process c.index_mut.result.now c.monitor.new.self c.self.invariant.listed
    (mails_low c.args.self.now c.self.inside c.deref.result.now c.args.process (has_at c.deref.ensures c.self.view_is c.self.invariant.sound) c.requires) c.index_mut.ensures.value
    (λ some none. some (c.monitor.ensures.queue ∙ none)))

pub returns : goal.returns
returns c =
    record {
      call =
          (mail_called c.args.self.now c.self.inside c.deref.result.now _ c.monitor.new.pass c.args.process c.index_mut.result.now c.monitor.new.self (λ n g. Monitors g 0 n c.monitor.result)
          c.deref.ensures c.self.view_is c.self.invariant.sound c.monitor.ensures.belongs c.requires c.index_mut.ensures.value c.monitor.ensures.process c.monitor.ensures.stands
          (λ legal. monitor_made (settings_of c.deref.result.now) (view_of c.self.inside.pass) 0 c.index_mut.result.now.process c.monitor.result (view_of c.monitor.new.pass) legal c.monitor.ensures.call)
          (monitors_only (settings_of c.deref.result.now) 0 c.index_mut.result.now.process c.monitor.result) (monitors_calm (settings_of c.deref.result.now) 0 c.index_mut.result.now.process c.monitor.result)).goes;
    }
