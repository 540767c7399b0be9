use Rattle.std.proofs.Common.{◌≡◌, ◌<◌, refl, sym, subst, ◌∙◌, rules}
use Rattle.ert_defs.specs.{States.state, declared.settings.Settings.Settings}
use Rattle.ert_table.specs.{Desks.{settings_of, front_of}, Held.IsWhole, declared.view.View.View}
use Rattle.ert_timers.specs.{Parts.PartStands, Tidy.IsTidy}
use Rattle.ert_world.proofs.Dropping.{none_dropped, one_dropped}
use Rattle.ert_world.proofs.parts.drop_all_settled.Goals as goal

pub loop-wheel-init : goal.loop-wheel-init
loop-wheel-init c = record {
  belongs = c.requires.belongs;
  same = refl;
  dropped = none_dropped (settings_of c.args.desk.now) (front_of c.args.pass.now) c.args.wheels.now.items c.requires.ordered;
}

pub drop_settled-requires-clause-whole : goal.drop_settled-requires-clause-whole
drop_settled-requires-clause-whole c =
    subst (λ (v : View). IsWhole (settings_of c.args.desk.now) v.actors) (sym c.loop-wheel.invariant.same) c.requires.whole

pub drop_settled-requires-clause-stands : goal.drop_settled-requires-clause-stands
drop_settled-requires-clause-stands c =
    let g = settings_of c.args.desk.now in
    let low : c.loop-wheel.wheel < g.schedulers = subst (λ (s : Settings). c.loop-wheel.wheel < s.schedulers) c.settings.ensures c.loop-wheel-test.true in
    subst (λ (v : View). PartStands g v.front c.index_mut.result.now) (sym c.loop-wheel.invariant.same)
    (subst (PartStands g (front_of c.args.pass.now)) (sym c.index_mut.ensures.value)
    (c.loop-wheel.invariant.dropped.ordered.stand c.loop-wheel.wheel c.index_mut.result.now low refl))

pub loop-wheel-preserved : goal.loop-wheel-preserved
loop-wheel-preserved c =
    let g = settings_of c.args.desk.now in
    let h = front_of c.args.pass.now in
    let low : c.loop-wheel.wheel < g.schedulers = subst (λ (s : Settings). c.loop-wheel.wheel < s.schedulers) c.settings.ensures c.loop-wheel-test.true in
    record {
      belongs = c.drop_settled.ensures.belongs;
      same = c.drop_settled.ensures.same ∙ c.loop-wheel.invariant.same;
      dropped = one_dropped g h c.args.wheels.now.items c.loop-wheel.wheels.items c.loop-wheel.wheel c.index_mut.result.now c.drop_settled.new.self
          c.loop-wheel.invariant.dropped low c.index_mut.ensures.value
          (subst (λ (v : View). PartStands g v.front c.drop_settled.new.self) c.loop-wheel.invariant.same c.drop_settled.ensures.stands)
          c.drop_settled.ensures.loses
          (subst (λ (v : View). IsTidy (state g v.front) c.drop_settled.new.self) c.loop-wheel.invariant.same c.drop_settled.ensures.tidy);
    }

pub returns : goal.returns
returns c =
    let far = c.loop-wheel.invariant.dropped in
    let all : (settings_of c.args.desk.now).schedulers ≡ c.loop-wheel.wheel = search rules in
    record {
      belongs = c.loop-wheel.invariant.belongs;
      same = c.loop-wheel.invariant.same;
      ordered = far.ordered;
      rows = far.rows;
      tidy = λ i d low. far.tidy i d (rw (sym all) low);
    }
