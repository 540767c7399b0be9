use Rattle.std.proofs.Common.{◌≡◌, ◌-◌, List, length, sym, subst, ◌∙◌, arith, ℕ, Option, Some}
use Rattle.std.specs.Arc.{arc_value}
use Rattle.ert_mail.specs.{Lists.{AreListed, exited_from}, Mailboxes.Mailbox}
use Rattle.ert_shard.proofs.{Called.has_at, Received.{Found, have_mail, mail_found}, shard.Shard.next_mail.Goals.{After-deref-2, Joined-next, in-Some, in-None+in_ok-list-in-None, in-Some-next, in-None-next}}
use Rattle.ert_shard.specs.{Receiving.{process_from, ShardFindsMail}, Shards.{counted_from, owned, share_of, shard_parts_of}}
use Rattle.ert_table.specs.{Desks.state_of, declared.desk.Desk.Desk}
use Rattle.ert_world.proofs.Mailed.{Starts, starts_new, starts_there}
use Rattle.ert_shard.proofs.shard.Shard.next_mail.Goals as goal

starts : (c : After-deref-2) → Starts (exited_from c.self.inside.from (state_of (arc_value c.self.inside.desk) c.self.inside.pass).exited) c.self.inside.list (c.self.inside.to - c.self.inside.from)
    c.self.inside.mails.items c.match-take.list
starts c =
    let b = c.self.inside in
    let counted = c.self.invariant.stand.mails.counted in
    let many : length b.mails.items ≡ b.to - b.from = omega (arith, counted) in
    elim c.match-take.branch [
      | in-Some w ↦ starts_there (counted_from b.from (state_of (arc_value b.desk) b.pass)) b.list c.take.result (b.to - b.from)
          b.mails.items c.match-take.list w.in-Some.list many c.self.invariant.stand.listed c.take.ensures.value w.in-Some.is w.list-is
      | in-None+in_ok-list-in-None w ↦ starts_new (exited_from b.from (state_of (arc_value b.desk) b.pass).exited) b.list c.take.result (b.to - b.from)
          b.mails.items c.match-take.list w.in_ok-list-in-None.list many c.take.ensures.value w.in-None.is w.list-is w.in_ok-list-in-None.ensures
    ]

pub next-next-requires-clause-listed : goal.next-next-requires-clause-listed
next-next-requires-clause-listed c =
    let b = c.self.inside in
    let row = c.match-take.list in
    subst (λ (x : Desk). AreListed (exited_from b.from (state_of x b.pass).exited) row c.deref-2.result.now) (sym c.deref.ensures)
    (subst (λ (mails : List Mailbox). AreListed (exited_from b.from (state_of (arc_value b.desk) b.pass).exited) row mails) (sym c.deref-2.ensures.value) (starts c).listed)

pub next-next-requires-clause-mail : goal.next-next-requires-clause-mail
next-next-requires-clause-mail c =
    let b = c.self.inside in
    have_mail c.args.self.now c.deref.result.now b.pass (share_of b.number b.from b.to) (shard_parts_of b.wheel b.inbox b.sched b.mails.items b.list) c.deref-2.result.now
    (has_at c.deref.ensures c.self.view_is c.self.invariant) c.deref-2.ensures.value

starts_then : (c : Joined-next) → Starts (exited_from c.self.inside.from (state_of (arc_value c.self.inside.desk) c.self.inside.pass).exited) c.self.inside.list (c.self.inside.to - c.self.inside.from)
    c.self.inside.mails.items c.match-take.list
starts_then c =
    let b = c.self.inside in
    let counted = c.self.invariant.stand.mails.counted in
    let many : length b.mails.items ≡ b.to - b.from = omega (arith, counted) in
    elim c.match-take.branch [
      | in-Some w ↦ starts_there (counted_from b.from (state_of (arc_value b.desk) b.pass)) b.list c.take.result (b.to - b.from)
          b.mails.items c.match-take.list w.in-Some.list many c.self.invariant.stand.listed c.take.ensures.value w.in-Some.is w.list-is
      | in-None+in_ok-list-in-None w ↦ starts_new (exited_from b.from (state_of (arc_value b.desk) b.pass).exited) b.list c.take.result (b.to - b.from)
          b.mails.items c.match-take.list w.in_ok-list-in-None.list many c.take.ensures.value w.in-None.is w.list-is w.in_ok-list-in-None.ensures
    ]

found : (c : Joined-next)
    → Found c.args.self.now (arc_value c.self.inside.desk) c.next-next.new.pass (share_of c.self.inside.number c.self.inside.from c.self.inside.to)
    (shard_parts_of c.self.inside.wheel c.self.inside.inbox c.self.inside.sched c.self.inside.mails.items (Some c.next-next.new.self)) c.next-next.result
found c =
    let b = c.self.inside in
    let start = starts_then c in
    let ordered = c.self.invariant.holds.ordered in
    let bound : c.next-next.new.self.bound ≡ b.to - b.from = c.next-next.ensures.bound ∙ start.bound in
    mail_found c.args.self.now c.deref.result.now (arc_value b.desk) b.pass c.next-next.new.pass (share_of b.number b.from b.to)
    (shard_parts_of b.wheel b.inbox b.sched b.mails.items b.list) c.deref-2.result.now c.next-next.new.self c.match-take.list.held c.next-next.result c.deref.ensures c.self.view_is
    c.self.invariant c.next-next.ensures.belongs c.next-next.ensures.call c.deref-2.ensures.value c.next-next.ensures.listed c.next-next.ensures.next start.held
    (omega (arith, ordered, bound))

pub invariant_of-self-2 : goal.invariant_of-self-2
invariant_of-self-2 c = (found c).fit

pub returns-clause-next : goal.returns-clause-next
returns-clause-next c =
    let b = c.self.inside in
    let finds = (found c).finds in
    elim c.match-next.branch [
      | in-Some-next w ↦ rw w.result-is (subst (λ (o : Option ℕ). ShardFindsMail c.args.self.now (process_from b.from o) (owned (arc_value b.desk) c.next-next.new.pass (share_of b.number b.from b.to) b.wheel (Some c.next-next.new.self))) w.in-Some-next.is finds)
      | in-None-next w ↦ rw w.result-is (subst (λ (o : Option ℕ). ShardFindsMail c.args.self.now (process_from b.from o) (owned (arc_value b.desk) c.next-next.new.pass (share_of b.number b.from b.to) b.wheel (Some c.next-next.new.self))) w.in-None-next.is finds)
    ]
