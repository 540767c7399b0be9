use Rattle.std.specs.Arc.{arc_value}
use Rattle.ert_effects.specs.MailCalls.{Takes}
use Rattle.ert_mail.proofs.LawsHold.{takes_only}
use Rattle.ert_table.specs.Desks.{settings_of, state_of}
use Rattle.ert_world.proofs.{Calls.{has_at, mail_called}, Listed.{listed_kept, mails_low, taken_less, kept_by}, Calm.takes_calm}
use Rattle.ert_world.proofs.world.World.take.Goals as goal

pub invariant_of-self : goal.invariant_of-self
invariant_of-self c =
    let all =
    ((mail_called c.args.self.now c.self.inside c.deref.result.now _ c.take.new.pass c.args.process c.index_mut.result.now c.take.new.self (λ n g. Takes g 0 n c.take.result)
    c.deref.ensures c.self.view_is c.self.invariant.sound c.take.ensures.belongs c.requires c.index_mut.ensures.value c.take.ensures.process c.take.ensures.stands
    (λ legal. c.take.ensures.call)
    (takes_only (settings_of c.deref.result.now) 0 c.index_mut.result.now.process c.take.result) (takes_calm (settings_of c.deref.result.now) 0 c.index_mut.result.now.process c.take.result))) in
    kept_by c.self.inside c.self.inside.list c.self.view_is all.fit all.goes.grows
    (listed_kept (state_of (arc_value c.self.inside.desk) c.self.inside.pass) c.self.inside.list c.self.inside.mails.items c.args.process c.index_mut.result.now c.take.new.self c.self.invariant.listed
    (mails_low c.args.self.now c.self.inside c.deref.result.now c.args.process (has_at c.deref.ensures c.self.view_is c.self.invariant.sound) c.requires) c.index_mut.ensures.value
    (taken_less c.index_mut.result.now.held.queue c.take.new.self.held.queue c.take.result c.take.ensures.taken))

pub returns : goal.returns
returns c =
    record {
      call =
          (mail_called c.args.self.now c.self.inside c.deref.result.now _ c.take.new.pass c.args.process c.index_mut.result.now c.take.new.self (λ n g. Takes g 0 n c.take.result)
          c.deref.ensures c.self.view_is c.self.invariant.sound c.take.ensures.belongs c.requires c.index_mut.ensures.value c.take.ensures.process c.take.ensures.stands
          (λ legal. c.take.ensures.call)
          (takes_only (settings_of c.deref.result.now) 0 c.index_mut.result.now.process c.take.result) (takes_calm (settings_of c.deref.result.now) 0 c.index_mut.result.now.process c.take.result)).goes;
    }
