use Rattle.std.proofs.Common.{refl}
use Rattle.std.specs.Arc.{arc_value}
use Rattle.ert_effects.specs.Sleeping.{FindsArmed}
use Rattle.ert_world.proofs.{Alone.stays_by, Calls.has_at, Listed.kept_by, NextDue.{all_probed, time_new, fewer_new, left_new}, WheelCalls.lost_rows}
use Rattle.ert_world.proofs.world.World.drop_settled.Goals as goal

pub invariant_of-self : goal.invariant_of-self
invariant_of-self c =
    let all =
    (all_probed c.args.self.now c.self.inside c.deref.result.now _ c.probe_rows.new.pass c.args.sched c.probe_rows.result c.index_mut.result.now c.probe_rows.new.self
    c.deref.ensures c.self.view_is c.self.invariant.sound c.probe_rows.ensures.belongs c.requires c.index_mut.ensures.value c.probe_rows.ensures.number
    c.probe_rows.ensures.stands c.probe_rows.ensures.loses c.probe_rows.ensures.call) in
    kept_by c.self.inside c.self.inside.list c.self.view_is all.fit all.goes.grows c.self.invariant.listed

pub returns : goal.returns
returns c =
    let old = c.index_mut.result.now in
    let new = c.probe_rows.new.self in
    let rows = c.probe_rows.ensures.call in
    let e = arc_value c.self.inside.desk in
    let same = c.deref.ensures in
    let has = has_at refl c.self.view_is c.self.invariant.sound in
    let low = c.requires in
    let lent = c.index_mut.ensures.value in
    let all =
    (all_probed c.args.self.now c.self.inside c.deref.result.now _ c.probe_rows.new.pass c.args.sched c.probe_rows.result old new same c.self.view_is
    c.self.invariant.sound c.probe_rows.ensures.belongs low lent c.probe_rows.ensures.number c.probe_rows.ensures.stands c.probe_rows.ensures.loses rows) in
    record {
      call = record {
        probes = rows.probes;
        goes = all.goes;
        fewer = fewer_new has low lent new c.probe_rows.result rows.fewer;
        armed = left_new has low lent new (λ k. FindsArmed k rows.probes) rows.armed;
      };
      stays = stays_by all.goes (lost_rows c.args.self.now c.self.inside e c.args.sched old new has low lent c.probe_rows.ensures.loses) all.forgets;
      time = time_new has low lent new c.probe_rows.ensures.time;
    }
