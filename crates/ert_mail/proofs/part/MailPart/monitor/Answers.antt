use Rattle.std.proofs.Common.{◌≡◌, ℤ, rules, true, Ok, FitsSigned, List, [], ◌∷◌, ◌++◌, ◌∙◌, ◌≤◌, sym, ap, subst, refl, to_z, of_z, w64, to_z-of_z}
use Rattle.ert_effects.specs.MailCalls.{Monitors}
use Rattle.ert_table.specs.{Calls.IsMade, Desks.{settings_of, view_of}, Takes.Appends}
use Rattle.ert_mail.specs.Mailboxes.{Mailbox, MailboxStands, IsCallers, AreMany}
use Rattle.ert_mail.specs.contracts.part.MailPart.{the_view}
use Rattle.ert_defs.specs.{Entries.watch_entry, declared.mail.Monitor.Monitor}
use Rattle.ert_mail.proofs.Watchings.{full_made, stands_full, not_many, watch_made, stands_watched}
use Rattle.ert_mail.proofs.part.MailPart.monitor.Goals as goal

pub returns-then-has_many-clause-call : goal.returns-then-has_many-clause-call
returns-then-has_many-clause-call c =
    full_made (settings_of c.args.desk.now) (view_of c.args.pass.now) (view_of c.load_offset.new.self) c.args.by c.args.self.now
    c.load_offset.result.0 c.load_offset.result.1 c.requires.stands (c.if-has_many.ensures.0 refl) c.load_offset.ensures.step

pub returns-then-has_many-clause-stands : goal.returns-then-has_many-clause-stands
returns-then-has_many-clause-stands c =
    stands_full (settings_of c.args.desk.now) (view_of c.args.pass.now) (view_of c.load_offset.new.self) c.args.by c.args.self.now
    c.load_offset.result.0 c.load_offset.result.1 c.requires.holds.mail c.requires.stands c.load_offset.ensures.step

pub returns-clause-call : goal.returns-clause-call
returns-clause-call c =
    let g = settings_of c.args.desk.now in
    let v = view_of c.args.pass.now in
    let w = view_of c.load_offset-told.new.self in
    let few : AreMany (the_view c.self.inside).held → ⊥ = λ many.
    let full : c.has_many.result ≡ true = c.has_many.ensures.1 (subst (λ (m : Mailbox). AreMany m.held) c.self.view_is many) in cc in
    let low : c.self.inside.next ≤ 4294967295 = not_many (the_view c.self.inside).held few in
    subst (λ (m : Mailbox). IsMade g v (Monitors g c.args.by m.process (Ok c.self.inside.next)) w) c.self.view_is
    (watch_made g v w c.args.by c.self.inside.process c.self.inside.next c.load_offset-told.result.0 low c.load_offset-told.ensures.step)

pub returns-clause-stands : goal.returns-clause-stands
returns-clause-stands c =
    let g = settings_of c.args.desk.now in
    let v = view_of c.args.pass.now in
    let w = view_of c.load_offset-told.new.self in
    let m : Mailbox = the_view c.self.inside in
    let holds = subst (λ (m : Mailbox). IsCallers g v c.args.by m.process) (sym c.self.view_is) c.requires.holds in
    let stands = subst (MailboxStands g v.front) (sym c.self.view_is) c.requires.stands in
    let fits : FitsSigned w64 c.load_offset-told.result.0 = search rules in
    let told : ℤ = to_z w64 (of_z w64 c.load_offset-told.result.0) in
    let made : Monitor = record { number = c.self.inside.next; told = told } in
    let step = subst (λ x. Appends g v (watch_entry c.args.by m.process made.number x) w) (sym (to_z-of_z fits)) c.load_offset-told.ensures.step in
    stands_watched g v w c.args.by made m _ holds.mail stands step refl
    (c.push_reserved.ensures.items ∙ ap (λ (ms : List Monitor). ms ++ made ∷ []) c.reserve.ensures.items) refl refl refl
