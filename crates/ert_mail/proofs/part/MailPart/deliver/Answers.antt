use Rattle.std.proofs.Common.{◌^◌, ◌≡◌, ◌∙◌, ◌≤◌, ◌+◌, ◌-◌, List, [], ◌∷◌, ◌++◌, add-zero, rules, refl, sym, ap, subst}
use Rattle.std.specs.VecDeque.{deque_len, deque_capacity}
use Rattle.ert_defs.specs.{Mails.message_of, declared.mail.Mail.Mail}
use Rattle.ert_effects.specs.declared.answers.Handed.TheVariants.{Put, Dropped}
use Rattle.ert_table.specs.Desks.{settings_of, view_of}
use Rattle.ert_mail.specs.Mailboxes.{Mailbox, mailbox_seen}
use Rattle.ert_mail.specs.contracts.part.MailPart.{the_view}
use Rattle.ert_mail.proofs.Handings.{stands_handed, count_fits}
use Rattle.ert_mail.proofs.part.MailPart.deliver.Goals as goal

pub returns-in-Dropped-clause-stands : goal.returns-in-Dropped-clause-stands
returns-in-Dropped-clause-stands c =
    let m : Mailbox = the_view c.self.inside in
    let n : Mailbox = mailbox_seen c.self.inside.process c.reserve.new.self.items c.self.inside.monitors.items c.self.inside.next c.self.inside.delivered
    (deque_capacity c.reserve.new.self - deque_len c.reserve.new.self) in
    stands_handed (settings_of c.args.desk.now) (view_of c.args.pass.now) (view_of c.hand_over.new.pass) c.args.expired.now Dropped m n
    c.args.self.now c.self.view_is c.requires.dest c.requires.holds.mail c.requires.stands c.in-Dropped.ensures.steps refl
    (ap (λ (q : List Mail). record { queue = q; monitors = m.held.monitors; next = m.held.next }) c.in_ok-reserve.ensures.items)
    (sym (add-zero m.delivered))

pub overflow_add-self : goal.overflow_add-self
overflow_add-self c =
    let few : c.self.inside.delivered + 1 ≤ 2 ^ 63 =
    subst (λ (m : Mailbox). m.delivered + 1 ≤ 2 ^ 63) (sym c.self.view_is)
    (count_fits (settings_of c.args.desk.now) (view_of c.args.pass.now) (view_of c.hand_over.new.pass) c.args.expired.now c.args.self.now
    c.args.desk.now.checked c.requires.dest c.requires.holds.mail c.requires.stands c.in_default.ensures.steps) in
    search rules

pub returns-clause-stands : goal.returns-clause-stands
returns-clause-stands c =
    let expired = c.args.expired.now in
    let m : Mailbox = the_view c.self.inside in
    let n : Mailbox = mailbox_seen c.self.inside.process c.push_back_reserved.new.self.items c.self.inside.monitors.items c.self.inside.next
    (c.self.inside.delivered + 1) (deque_capacity c.push_back_reserved.new.self - deque_len c.push_back_reserved.new.self) in
    let queue : c.push_back_reserved.new.self.items ≡ m.held.queue ++ message_of expired ∷ [] =
    c.push_back_reserved.ensures.items
    ∙ (ap (λ (q : List Mail). q ++ c.of_expired.result ∷ []) c.in_ok-reserve.ensures.items
    ∙ ap (λ (mail : Mail). m.held.queue ++ mail ∷ []) c.of_expired.ensures) in
    stands_handed (settings_of c.args.desk.now) (view_of c.args.pass.now) (view_of c.hand_over.new.pass) expired Put m n
    c.args.self.now c.self.view_is c.requires.dest c.requires.holds.mail c.requires.stands c.in_default.ensures.steps refl
    (ap (λ (q : List Mail). record { queue = q; monitors = m.held.monitors; next = m.held.next }) queue) refl
