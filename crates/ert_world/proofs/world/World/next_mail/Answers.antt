use Rattle.std.proofs.Common.{ℕ, Bool, List, Some, sym, ap, subst, ◌∙◌}
use Rattle.std.specs.{Arc.arc_value, List.range_with_len}
use Rattle.ert_defs.specs.declared.settings.Settings.{Settings}
use Rattle.ert_mail.specs.{Lists.{AreListed, exited_from}, Mailboxes.Mailbox, Turns.TurnRow}
use Rattle.ert_table.specs.{Desks.{settings_of, state_of}, declared.desk.Desk.Desk}
use Rattle.ert_world.proofs.{Calls.{has_at, parts_in}, Mailed.{Starts, from_zero, have_mail, listed_at_zero, mail_found, next_at_zero, starts_new, starts_there}, world.World.next_mail.Goals.{After-deref-3, Joined-self, in-Some}}
use Rattle.ert_world.proofs.{world.World.next_mail.Goals.in-None+in_ok-list-in-None}
use Rattle.ert_world.specs.{Mailing.{FindsMail, turns_of}, Worlds.{Seen, seen, AreKept}}
use Rattle.ert_world.proofs.world.World.next_mail.Goals as goal

starts : (c : After-deref-3) → Starts (state_of (arc_value c.self.inside.desk) c.self.inside.pass).exited c.self.inside.list (settings_of (arc_value c.self.inside.desk)).processes
    c.self.inside.mails.items c.match-take.list
starts c = elim c.match-take.branch [
  | in-Some w ↦ starts_there (state_of (arc_value c.self.inside.desk) c.self.inside.pass) c.self.inside.list c.take.result (settings_of (arc_value c.self.inside.desk)).processes
      c.self.inside.mails.items c.match-take.list w.in-Some.list c.self.invariant.sound.fit.stand.mails.counted c.self.invariant.listed c.take.ensures.value w.in-Some.is w.list-is
  | in-None+in_ok-list-in-None w ↦ starts_new (state_of (arc_value c.self.inside.desk) c.self.inside.pass).exited c.self.inside.list c.take.result (settings_of (arc_value c.self.inside.desk)).processes
      c.self.inside.mails.items c.match-take.list w.in_ok-list-in-None.list c.self.invariant.sound.fit.stand.mails.counted c.take.ensures.value w.in-None.is w.list-is
      (w.in_ok-list-in-None.ensures ∙ ap (λ (g : Settings). let r : TurnRow = record { bound = g.processes; held = range_with_len 0 g.processes } in r) (w.settings.ensures ∙ ap settings_of w.deref.ensures))
]

pub next-next-requires-clause-listed : goal.next-next-requires-clause-listed
next-next-requires-clause-listed c =
    let d = arc_value c.self.inside.desk in
    let row = c.match-take.list in
    subst (λ (x : Desk). AreListed (exited_from 0 (state_of x c.self.inside.pass).exited) row c.deref-3.result.now) (sym c.deref-2.ensures)
    (subst (λ (mails : List Mailbox). AreListed (exited_from 0 (state_of d c.self.inside.pass).exited) row mails) (sym c.deref-3.ensures.value)
    (subst (λ (e : ℕ → Bool). AreListed e row c.self.inside.mails.items) (sym (from_zero (state_of d c.self.inside.pass).exited)) (starts c).listed))

pub next-next-requires-clause-mail : goal.next-next-requires-clause-mail
next-next-requires-clause-mail c =
    have_mail c.args.self.now c.self.inside c.deref-2.result.now c.deref-3.result.now (has_at c.deref-2.ensures c.self.view_is c.self.invariant.sound) c.deref-3.ensures.value

starts_then : (c : Joined-self) → Starts (state_of (arc_value c.self.inside.desk) c.self.inside.pass).exited c.self.inside.list (settings_of (arc_value c.self.inside.desk)).processes
    c.self.inside.mails.items c.match-take.list
starts_then c = elim c.match-take.branch [
  | in-Some w ↦ starts_there (state_of (arc_value c.self.inside.desk) c.self.inside.pass) c.self.inside.list c.take.result (settings_of (arc_value c.self.inside.desk)).processes
      c.self.inside.mails.items c.match-take.list w.in-Some.list c.self.invariant.sound.fit.stand.mails.counted c.self.invariant.listed c.take.ensures.value w.in-Some.is w.list-is
  | in-None+in_ok-list-in-None w ↦ starts_new (state_of (arc_value c.self.inside.desk) c.self.inside.pass).exited c.self.inside.list c.take.result (settings_of (arc_value c.self.inside.desk)).processes
      c.self.inside.mails.items c.match-take.list w.in_ok-list-in-None.list c.self.invariant.sound.fit.stand.mails.counted c.take.ensures.value w.in-None.is w.list-is
      (w.in_ok-list-in-None.ensures ∙ ap (λ (g : Settings). let r : TurnRow = record { bound = g.processes; held = range_with_len 0 g.processes } in r) (w.settings.ensures ∙ ap settings_of w.deref.ensures))
]

found : (c : Joined-self)
    → AreKept (arc_value c.self.inside.desk) c.next-next.new.pass c.self.inside.next (record (parts_in c.self.inside) { turns = Some c.next-next.new.self })
    × FindsMail c.args.self.now c.next-next.result (seen (arc_value c.self.inside.desk) c.next-next.new.pass c.self.inside.next c.self.inside.keeper c.self.inside.wheels.items (Some c.next-next.new.self))
found c =
    let exited = (state_of c.deref-2.result.now c.next-next.new.pass).exited in
    let mails = c.deref-3.result.now in
    let start = starts_then c in
    mail_found c.args.self.now c.self.inside c.deref-2.result.now (arc_value c.self.inside.desk) c.next-next.new.pass mails c.next-next.result c.match-take.list.held c.next-next.new.self
    c.deref-2.ensures c.self.view_is c.self.invariant.sound c.next-next.ensures.belongs c.next-next.ensures.call c.deref-3.ensures.value
    (next_at_zero exited mails c.next-next.result c.next-next.ensures.next) (listed_at_zero exited c.next-next.new.self mails c.next-next.ensures.listed)
    (start.held ∙ ap (λ (w : Seen). turns_of w.settings.processes w.turns) c.self.view_is)
    (c.next-next.ensures.bound ∙ (start.bound ∙ ap (λ (w : Seen). w.settings.processes) c.self.view_is))

pub invariant_of-self-2 : goal.invariant_of-self-2
invariant_of-self-2 c = (found c).0

pub returns-clause-next : goal.returns-clause-next
returns-clause-next c = (found c).1
