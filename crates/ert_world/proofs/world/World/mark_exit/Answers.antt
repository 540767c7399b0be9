use Rattle.std.proofs.Common.{◌≡◌, true, ap, subst}
use Rattle.ert_table.specs.{declared.desk.Desk.Desk, Desks.{settings_of, view_of, front_of}}
use Rattle.ert_effects.specs.WheelCalls.{MarksExit}
use Rattle.ert_defs.specs.{States.state, declared.entry.Actor.TheVariants.Caller}
use Rattle.ert_world.proofs.{Calm.mark_quiet, Alone.stays_same, Calls.alone_called, Listed.kept_by, Gone.marked}
use Rattle.ert_world.specs.Worlds.{Seen}
use Rattle.ert_world.proofs.world.World.mark_exit.Goals as goal

pub invariant_of-self : goal.invariant_of-self
invariant_of-self c =
    let all =
    ((alone_called c.args.self.now c.self.inside c.deref.result.now _ c.mark_exit.new.self (λ g. MarksExit g (Caller 0) c.args.process c.mark_exit.result) c.deref.ensures c.self.view_is c.self.invariant.sound
    c.mark_exit.ensures.belongs c.mark_exit.ensures.call (mark_quiet (settings_of c.deref.result.now) (Caller 0) c.args.process c.mark_exit.result))) in
    kept_by c.self.inside c.self.inside.list c.self.view_is all.fit all.goes.grows c.self.invariant.listed

pub returns-clause-call : goal.returns-clause-call
returns-clause-call c =
    (alone_called c.args.self.now c.self.inside c.deref.result.now _ c.mark_exit.new.self (λ g. MarksExit g (Caller 0) c.args.process c.mark_exit.result) c.deref.ensures c.self.view_is c.self.invariant.sound
    c.mark_exit.ensures.belongs c.mark_exit.ensures.call (mark_quiet (settings_of c.deref.result.now) (Caller 0) c.args.process c.mark_exit.result)).goes

pub returns-clause-exited : goal.returns-clause-exited
returns-clause-exited c =
    subst (λ (d : Desk). (state (settings_of d) (front_of c.mark_exit.new.self)).exited c.args.process ≡ true) c.deref.ensures
    (marked (settings_of c.deref.result.now) (view_of c.self.inside.pass) (view_of c.mark_exit.new.self) 0 c.args.process c.mark_exit.result c.mark_exit.ensures.call)

pub returns-clause-stays : goal.returns-clause-stays
returns-clause-stays c =
    let done =
    (alone_called c.args.self.now c.self.inside c.deref.result.now _ c.mark_exit.new.self (λ g. MarksExit g (Caller 0) c.args.process c.mark_exit.result) c.deref.ensures c.self.view_is c.self.invariant.sound
    c.mark_exit.ensures.belongs c.mark_exit.ensures.call (mark_quiet (settings_of c.deref.result.now) (Caller 0) c.args.process c.mark_exit.result)) in
    stays_same done.goes (ap (λ (w : Seen). w.wheels) c.self.view_is) done.forgets
