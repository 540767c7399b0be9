use Rattle.std.proofs.Common.{subst, ap, ◌∙◌}
use Rattle.std.specs.Arc.{arc_value}
use Rattle.ert_defs.specs.States.{state}
use Rattle.ert_shard.proofs.Probing.{armed_in, asked}
use Rattle.ert_shard.specs.Shards.{Owned, share_of, shard_parts_of}
use Rattle.ert_table.specs.{Desks.{settings_of, front_of}, declared.desk.Desk.Desk}
use Rattle.ert_timers.specs.{Parts.{Part, PartStands as WheelStands}, Sleeping.IsFoundNext}
use Rattle.ert_shard.proofs.shard.Shard.next_due.Goals as goal

pub invariant_of-self : goal.invariant_of-self
invariant_of-self c =
    let b = c.self.inside in
    (asked c.args.self.now c.deref.result.now _ b.pass c.next_due.new.pass (share_of b.number b.from b.to)
    (shard_parts_of b.wheel b.inbox b.sched b.mails.items b.list) c.next_due.new.self c.deref.ensures c.self.view_is c.self.invariant c.next_due.ensures.belongs
    c.next_due.ensures.number c.next_due.ensures.stands c.next_due.ensures.loses c.next_due.ensures.call).fit

pub returns : goal.returns
returns c =
    let b = c.self.inside in
    let e = arc_value b.desk in
    let q = c.next_due.new.pass in
    let new = c.next_due.new.self in
    let s = share_of b.number b.from b.to in
    let parts = shard_parts_of b.wheel b.inbox b.sched b.mails.items b.list in
    let stands = subst (λ (x : Desk). WheelStands (settings_of x) (front_of q) new) c.deref.ensures c.next_due.ensures.stands in
    let was = ap (λ (o : Owned). o.wheel) c.self.view_is in
    record {
      call = (asked c.args.self.now c.deref.result.now _ b.pass q s parts new c.deref.ensures c.self.view_is c.self.invariant c.next_due.ensures.belongs
          c.next_due.ensures.number c.next_due.ensures.stands c.next_due.ensures.loses c.next_due.ensures.call).steps;
      held = c.next_due.ensures.held;
      armed = armed_in e b.pass s parts new (state (settings_of e) (front_of q)) c.next_due.result c.self.invariant c.next_due.ensures.number
          (c.next_due.ensures.armed (settings_of e) (front_of q) stands);
      found = subst (λ (p : Part). IsFoundNext (state (settings_of e) (front_of q)) p new c.next_due.result) was
          (subst (λ (x : Desk). IsFoundNext (state (settings_of x) (front_of q)) b.wheel new c.next_due.result) c.deref.ensures c.next_due.ensures.found);
      time = c.next_due.ensures.time ∙ ap (λ (p : Part). p.passed) was;
    }
