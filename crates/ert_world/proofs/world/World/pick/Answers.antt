use Rattle.std.proofs.Common.{ap}
use Rattle.ert_world.proofs.{Alone.stays_same, Calls.{has_at, does_at}, Listed.kept_by, SchedCalls.pick_called}
use Rattle.ert_world.specs.Worlds.{Seen}
use Rattle.ert_world.proofs.world.World.pick.Goals as goal

pub invariant_of-self : goal.invariant_of-self
invariant_of-self c =
    let all =
    ((does_at c.deref.ensures (pick_called c.args.self.now c.self.inside c.deref.result.now c.pick-got.new.pass c.args.sched c.index_mut.result.now c.pick-got.new.self c.index_mut-2.result.now
    c.take_up.new.self c.pick-got.result
    (has_at c.deref.ensures c.self.view_is c.self.invariant.sound) c.pick-got.ensures.belongs c.requires.sched c.index_mut.ensures.value c.index_mut-2.ensures.value c.pick-got.ensures.wheel
    c.pick-got.ensures.stands c.pick-got.ensures.call c.pick-got.ensures.sched c.take_up.ensures.wheel c.take_up.ensures.hand c.take_up.ensures.expired))) in
    kept_by c.self.inside c.self.inside.list c.self.view_is all.fit all.goes.grows c.self.invariant.listed

pub returns-clause-call : goal.returns-clause-call
returns-clause-call c =
    (does_at c.deref.ensures (pick_called c.args.self.now c.self.inside c.deref.result.now c.pick-got.new.pass c.args.sched c.index_mut.result.now c.pick-got.new.self c.index_mut-2.result.now
    c.take_up.new.self c.pick-got.result
    (has_at c.deref.ensures c.self.view_is c.self.invariant.sound) c.pick-got.ensures.belongs c.requires.sched c.index_mut.ensures.value c.index_mut-2.ensures.value c.pick-got.ensures.wheel
    c.pick-got.ensures.stands c.pick-got.ensures.call c.pick-got.ensures.sched c.take_up.ensures.wheel c.take_up.ensures.hand c.take_up.ensures.expired)).goes

pub returns-clause-stays : goal.returns-clause-stays
returns-clause-stays c =
    let done =
    (does_at c.deref.ensures (pick_called c.args.self.now c.self.inside c.deref.result.now c.pick-got.new.pass c.args.sched c.index_mut.result.now c.pick-got.new.self c.index_mut-2.result.now
    c.take_up.new.self c.pick-got.result
    (has_at c.deref.ensures c.self.view_is c.self.invariant.sound) c.pick-got.ensures.belongs c.requires.sched c.index_mut.ensures.value c.index_mut-2.ensures.value c.pick-got.ensures.wheel
    c.pick-got.ensures.stands c.pick-got.ensures.call c.pick-got.ensures.sched c.take_up.ensures.wheel c.take_up.ensures.hand c.take_up.ensures.expired)) in
    stays_same done.goes (ap (λ (w : Seen). w.wheels) c.self.view_is) done.forgets
