use Rattle.std.proofs.Common.{sym, subst, refl}
use Rattle.ert_effects.specs.MailCalls.{Demonitors}
use Rattle.ert_table.specs.{Calls.IsMade, Desks.{settings_of, view_of}}
use Rattle.ert_mail.specs.Mailboxes.{Mailbox, MailboxStands, IsCallers}
use Rattle.ert_mail.specs.contracts.part.MailPart.{the_view}
use Rattle.ert_mail.proofs.Watchings.{unwatch_made, stands_unwatched}
use Rattle.ert_mail.proofs.part.MailPart.demonitor.Goals as goal

pub returns-clause-call : goal.returns-clause-call
returns-clause-call c =
    let g = settings_of c.args.desk.now in
    let v = view_of c.args.pass.now in
    let w = view_of c.load_time.new.self in
    subst (λ (m : Mailbox). IsMade g v (Demonitors g c.args.by m.process c.args.monitor c.has_monitor-was.result) w) c.self.view_is
    (unwatch_made g v w c.args.by c.self.inside.process c.args.monitor c.has_monitor-was.result c.load_time.ensures.step)

pub returns-clause-stands : goal.returns-clause-stands
returns-clause-stands c =
    let g = settings_of c.args.desk.now in
    let v = view_of c.args.pass.now in
    let m : Mailbox = the_view c.self.inside in
    let holds = subst (λ (m : Mailbox). IsCallers g v c.args.by m.process) (sym c.self.view_is) c.requires.holds in
    let stands = subst (MailboxStands g v.front) (sym c.self.view_is) c.requires.stands in
    stands_unwatched g v (view_of c.load_time.new.self) c.args.by c.args.monitor c.has_monitor-was.result m _ holds.mail stands
    c.load_time.ensures.step refl refl c.remove_monitor.ensures.monitors refl refl
