use Rattle.std.proofs.Common.{false, sym, subst, refl}
use Rattle.ert_defs.specs.{Entries.mark_entry, declared.entry.Actor.TheVariants.Caller}
use Rattle.ert_effects.specs.{MailCalls.Takes, declared.answers.Taken.TheVariants.Exited}
use Rattle.ert_table.specs.{Calls.IsMade, Desks.{settings_of, view_of}, Takes.Appends}
use Rattle.ert_table.proofs.Parts.{popped}
use Rattle.ert_mail.specs.Mailboxes.{Mailbox, MailboxStands}
use Rattle.ert_mail.specs.contracts.part.MailPart.{the_view}
use Rattle.ert_mail.proofs.{Takings.{marked, exited_made, may_take, first_made, empty_made, stands_taken}, part.MailPart.take.Goals.{in-Some, in-None}}
use Rattle.ert_mail.proofs.part.MailPart.take.Goals as goal

pub returns-then-mark-clause-call : goal.returns-then-mark-clause-call
returns-then-mark-clause-call c =
    let g = settings_of c.args.desk.now in
    let v = view_of c.args.pass.now in
    let u = view_of c.mark.new.self in
    let p = c.self.inside.process in
    let exited = subst (λ was. Appends g v (mark_entry (Caller c.args.by) p false was) u) c.if-mark.true c.mark.ensures.step in
    subst (λ (m : Mailbox). IsMade g v (Takes g c.args.by m.process Exited) u) c.self.view_is (exited_made g v u c.args.by p exited)

pub returns-then-mark-clause-stands : goal.returns-then-mark-clause-stands
returns-then-mark-clause-stands c =
    let g = settings_of c.args.desk.now in
    let u = view_of c.mark.new.self in
    subst (MailboxStands g u.front) c.self.view_is
    (marked g (view_of c.args.pass.now) u c.args.by c.mark.result (the_view c.self.inside) c.args.self.now c.self.view_is
    c.requires.holds c.requires.stands c.mark.ensures.step).stands

pub load_time-requires-clause-may : goal.load_time-requires-clause-may
load_time-requires-clause-may c =
    let g = settings_of c.args.desk.now in
    let u = view_of c.mark.new.self in
    let m : Mailbox = the_view c.self.inside in
    let at = marked g (view_of c.args.pass.now) u c.args.by c.mark.result m c.args.self.now c.self.view_is c.requires.holds c.requires.stands c.mark.ensures.step in
    let first = popped c.self.inside.queue.items c.pop_front-got.new.self.items c.pop_front-got.result c.pop_front-got.ensures.items c.pop_front-got.ensures.rest in
    λ now. may_take g u c.args.by m c.pop_front-got.result at first.0

pub returns-clause-call : goal.returns-clause-call
returns-clause-call c =
    let g = settings_of c.args.desk.now in
    let v = view_of c.args.pass.now in
    let u = view_of c.mark.new.self in
    let w = view_of c.load_time.new.self in
    let p = c.self.inside.process in
    let alive = subst (λ was. Appends g v (mark_entry (Caller c.args.by) p false was) u) c.if-mark.false c.mark.ensures.step in
    subst (λ (m : Mailbox). IsMade g v (Takes g c.args.by m.process c.match-got.result) w) c.self.view_is
    (elim c.match-got.branch [
      | in-Some b ↦
          subst (λ answer. IsMade g v (Takes g c.args.by p answer) w) (sym b.result-is)
          (first_made g v u w c.args.by p c.pop_front-got.result b.in-Some.mail b.in-Some.is alive c.load_time.ensures.step)
      | in-None b ↦
          subst (λ answer. IsMade g v (Takes g c.args.by p answer) w) (sym b.result-is)
          (empty_made g v u w c.args.by p c.pop_front-got.result b.in-None.is alive c.load_time.ensures.step)
    ])

pub returns-clause-stands : goal.returns-clause-stands
returns-clause-stands c =
    let g = settings_of c.args.desk.now in
    let u = view_of c.mark.new.self in
    let m : Mailbox = the_view c.self.inside in
    let at = marked g (view_of c.args.pass.now) u c.args.by c.mark.result m c.args.self.now c.self.view_is c.requires.holds c.requires.stands c.mark.ensures.step in
    let first = popped c.self.inside.queue.items c.pop_front-got.new.self.items c.pop_front-got.result c.pop_front-got.ensures.items c.pop_front-got.ensures.rest in
    stands_taken g u (view_of c.load_time.new.self) c.args.by m _ c.pop_front-got.result at c.load_time.ensures.step
    refl first.1 refl refl refl
