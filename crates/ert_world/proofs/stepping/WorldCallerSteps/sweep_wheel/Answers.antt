use Rattle.std.proofs.Common.{◌≡◌, true, sym, subst}
use Rattle.ert_effects.specs.{Chains.SweepsWheel, Ways.Grows}
use Rattle.ert_table.specs.{Desks.{settings_of, view_of, front_of}, declared.desk.Desk.Desk}
use Rattle.ert_defs.specs.States.{state}
use Rattle.ert_world.proofs.{Alone.stays_by, Calls.{Has, has_at, does_at}, Listed.kept_by, Gone.still_exited, WheelCalls.{lost_rows, sweep_called}}
use Rattle.ert_world.specs.Worlds.{Seen, way_of}
use Rattle.ert_world.proofs.stepping.WorldCallerSteps.sweep_wheel.Goals as goal

pub invariant_of-self : goal.invariant_of-self
invariant_of-self c =
    let all =
    ((does_at c.deref.ensures (sweep_called c.args.self.now c.self.inside c.deref.result.now c.sweep.new.pass c.args.wheel c.args.process c.index_mut.result.now c.sweep.new.self (has_at c.deref.ensures c.self.view_is c.self.invariant.sound)
    c.sweep.ensures.belongs c.requires.wheel c.index_mut.ensures.value c.sweep.ensures.number c.sweep.ensures.stands c.sweep.ensures.call c.sweep.ensures.swept
    c.sweep.ensures.loses))) in
    kept_by c.self.inside c.self.inside.list c.self.view_is all.fit all.goes.grows c.self.invariant.listed

pub returns-clause-call : goal.returns-clause-call
returns-clause-call c =
    let a = c.args.self.now in
    subst (λ n. Grows (SweepsWheel a.settings (way_of a) n c.args.process c.args.wheel) a.history (front_of c.sweep.new.pass)) (sym c.requires.acts)
    (does_at c.deref.ensures (sweep_called a c.self.inside c.deref.result.now c.sweep.new.pass c.args.wheel c.args.process c.index_mut.result.now c.sweep.new.self (has_at c.deref.ensures c.self.view_is c.self.invariant.sound)
    c.sweep.ensures.belongs c.requires.wheel c.index_mut.ensures.value c.sweep.ensures.number c.sweep.ensures.stands c.sweep.ensures.call c.sweep.ensures.swept
    c.sweep.ensures.loses)).goes.grows

pub returns-clause-stays : goal.returns-clause-stays
returns-clause-stays c =
    let done =
    does_at c.deref.ensures (sweep_called c.args.self.now c.self.inside c.deref.result.now c.sweep.new.pass c.args.wheel c.args.process c.index_mut.result.now c.sweep.new.self (has_at c.deref.ensures c.self.view_is c.self.invariant.sound)
    c.sweep.ensures.belongs c.requires.wheel c.index_mut.ensures.value c.sweep.ensures.number c.sweep.ensures.stands c.sweep.ensures.call c.sweep.ensures.swept
    c.sweep.ensures.loses) in
    stays_by done.goes
    (lost_rows c.args.self.now c.self.inside c.deref.result.now c.args.wheel c.index_mut.result.now c.sweep.new.self
    (has_at c.deref.ensures c.self.view_is c.self.invariant.sound) c.requires.wheel c.index_mut.ensures.value c.sweep.ensures.loses) done.forgets

pub returns-clause-legal : goal.returns-clause-legal
returns-clause-legal c =
    (does_at c.deref.ensures (sweep_called c.args.self.now c.self.inside c.deref.result.now c.sweep.new.pass c.args.wheel c.args.process c.index_mut.result.now c.sweep.new.self (has_at c.deref.ensures c.self.view_is c.self.invariant.sound)
    c.sweep.ensures.belongs c.requires.wheel c.index_mut.ensures.value c.sweep.ensures.number c.sweep.ensures.stands c.sweep.ensures.call c.sweep.ensures.swept
    c.sweep.ensures.loses)).goes.legal

pub returns-clause-exited : goal.returns-clause-exited
returns-clause-exited c =
    let has : Has c.args.self.now c.self.inside c.deref.result.now = has_at c.deref.ensures c.self.view_is c.self.invariant.sound in
    let was = subst (λ (w : Seen). (state w.settings w.history).exited c.args.process ≡ true) (sym has.is) c.requires.exited in
    subst (λ (d : Desk). (state (settings_of d) (front_of c.sweep.new.pass)).exited c.args.process ≡ true) c.deref.ensures
    (still_exited (settings_of c.deref.result.now) (view_of c.self.inside.pass) c.sweep.ensures.call.entries (view_of c.sweep.new.pass) c.args.process c.sweep.ensures.call.call was)
