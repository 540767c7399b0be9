use Rattle.std.proofs.Common.{◌≡◌, ℤ, arith, rules, Ok, List, length, FitsSigned, ◌++◌, ◌-◌, sym, ap, subst, refl, ◌∙◌, to_z, of_z, w64, to_z-of_z}
use Rattle.ert_effects.specs.MailCalls.{Notifies}
use Rattle.ert_table.specs.{Calls.IsMade, Desks.{settings_of, view_of}, Takes.Appends}
use Rattle.ert_mail.specs.Mailboxes.{Mailbox, MailboxStands, IsCallers, mailbox_seen}
use Rattle.ert_mail.specs.contracts.part.MailPart.{the_view}
use Rattle.ert_defs.specs.{Entries.tell_entry, Mails.{changes_of, told_of}, declared.mail.Mail.Mail, declared.mail.Monitor.Monitor}
use Rattle.std.proofs.lemmas.List.{with_items_is}
use Rattle.std.specs.{Vec.with_items, VecDeque.{deque_len, deque_capacity}}
use Rattle.ert_mail.proofs.Watchings.{tell_made, stands_told}
use Rattle.ert_mail.proofs.part.MailPart.notify.Goals as goal

pub returns-clause-call : goal.returns-clause-call
returns-clause-call c =
    let g = settings_of c.args.desk.now in
    let v = view_of c.args.pass.now in
    let w = view_of c.load_offset-offset.new.self in
    let m : Mailbox = the_view c.self.inside in
    let stands = subst (MailboxStands g v.front) (sym c.self.view_is) c.requires.stands in
    let fits : FitsSigned w64 c.load_offset-offset.result.0 = search rules in
    let offset : ℤ = to_z w64 (of_z w64 c.load_offset-offset.result.0) in
    let step = subst (λ x. Appends g v (tell_entry c.args.by m.process x) w) (sym (to_z-of_z fits)) c.load_offset-offset.ensures.step in
    let put = c.notify_monitors.ensures.put ∙ ap (λ (ms : List Monitor). length (changes_of offset ms)) c.deref_mut.ensures.value in
    subst (λ (m : Mailbox). IsMade g v (Notifies g c.args.by m.process (Ok c.notify_monitors.result)) w) c.self.view_is
    (tell_made g v w c.args.by c.notify_monitors.result m offset stands put step)

pub returns-clause-stands : goal.returns-clause-stands
returns-clause-stands c =
    let g = settings_of c.args.desk.now in
    let v = view_of c.args.pass.now in
    let w = view_of c.load_offset-offset.new.self in
    let m : Mailbox = the_view c.self.inside in
    let holds = subst (λ (m : Mailbox). IsCallers g v c.args.by m.process) (sym c.self.view_is) c.requires.holds in
    let stands = subst (MailboxStands g v.front) (sym c.self.view_is) c.requires.stands in
    let fits : FitsSigned w64 c.load_offset-offset.result.0 = search rules in
    let offset : ℤ = to_z w64 (of_z w64 c.load_offset-offset.result.0) in
    let step = subst (λ x. Appends g v (tell_entry c.args.by m.process x) w) (sym (to_z-of_z fits)) c.load_offset-offset.ensures.step in
    let queue = c.notify_monitors.ensures.queue
    ∙ (ap (λ (q : List Mail). q ++ changes_of offset c.deref_mut.result.now) c.in_ok-reserve.ensures.items
    ∙ ap (λ (ms : List Monitor). c.self.inside.queue.items ++ changes_of offset ms) c.deref_mut.ensures.value) in
    let kept : (with_items c.self.inside.monitors c.notify_monitors.new.monitors).items ≡ c.notify_monitors.new.monitors =
    with_items_is c.self.inside.monitors c.notify_monitors.new.monitors (omega arith) in
    let monitors = kept ∙ c.notify_monitors.ensures.monitors ∙ ap (λ (ms : List Monitor). told_of offset ms) c.deref_mut.ensures.value in
    let n : Mailbox = mailbox_seen c.self.inside.process c.notify_monitors.new.queue.items (with_items c.self.inside.monitors c.notify_monitors.new.monitors).items c.self.inside.next c.self.inside.delivered
    (deque_capacity c.notify_monitors.new.queue - deque_len c.notify_monitors.new.queue) in
    stands_told g v w c.args.by offset m n holds.mail stands step refl queue monitors refl refl
