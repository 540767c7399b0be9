use Rattle.std.proofs.Common.{refl, subst}
use Rattle.std.specs.Arc.{arc_value}
use Rattle.ert_defs.specs.States.{state}
use Rattle.ert_table.specs.{Desks.{settings_of, front_of}, declared.desk.Desk.Desk}
use Rattle.ert_timers.specs.{Parts.PartStands as WheelStands, Sleeping.IsFoundNext}
use Rattle.ert_world.proofs.{Alone.stays_by, Calls.{has_at, schedulers_at}, Listed.kept_by, NextDue.{asked, held_new, armed_new, nearest_new, found_new, time_new}, WheelCalls.lost_rows}
use Rattle.ert_world.proofs.world.World.next_due.Goals as goal

pub invariant_of-self : goal.invariant_of-self
invariant_of-self c =
    let all =
    (asked c.args.self.now c.self.inside c.deref.result.now _ c.next_due.new.pass c.args.sched c.index_mut.result.now c.next_due.new.self c.deref.ensures c.self.view_is
    c.self.invariant.sound c.next_due.ensures.belongs c.requires c.index_mut.ensures.value c.next_due.ensures.number c.next_due.ensures.stands c.next_due.ensures.loses
    c.next_due.ensures.call) in
    kept_by c.self.inside c.self.inside.list c.self.view_is all.fit all.goes.grows c.self.invariant.listed

pub returns : goal.returns
returns c =
    let old = c.index_mut.result.now in
    let new = c.next_due.new.self in
    let q = c.next_due.new.pass in
    let e = arc_value c.self.inside.desk in
    let same = c.deref.ensures in
    let has = has_at refl c.self.view_is c.self.invariant.sound in
    let low = c.requires in
    let lent = c.index_mut.ensures.value in
    let all =
    (asked c.args.self.now c.self.inside c.deref.result.now _ q c.args.sched old new same c.self.view_is c.self.invariant.sound c.next_due.ensures.belongs
    low lent c.next_due.ensures.number c.next_due.ensures.stands c.next_due.ensures.loses c.next_due.ensures.call) in
    let s = state (settings_of e) (front_of q) in
    let stands = subst (λ (x : Desk). WheelStands (settings_of x) (front_of q) new) same c.next_due.ensures.stands in
    record {
      call = all.goes;
      stays = stays_by all.goes (lost_rows c.args.self.now c.self.inside e c.args.sched old new has low lent c.next_due.ensures.loses) all.forgets;
      held = held_new has low lent new c.next_due.result c.next_due.ensures.held;
      armed = armed_new has low lent new s c.next_due.result c.next_due.ensures.number (c.next_due.ensures.armed (settings_of e) (front_of q) stands);
      nearest = λ alone. nearest_new has low lent new s c.next_due.result c.next_due.ensures.number
          (λ x. all.fit.tidy alone c.args.sched x (schedulers_at has c.args.sched low)) (c.next_due.ensures.nearest (settings_of e) (front_of q) stands);
      found = found_new has low lent new s c.next_due.result
          (subst (λ (x : Desk). IsFoundNext (state (settings_of x) (front_of q)) old new c.next_due.result) same c.next_due.ensures.found);
      time = time_new has low lent new c.next_due.ensures.time;
    }
