use Rattle.std.proofs.Common.{sym}
use Rattle.ert_judge.proofs.FindLaws.{unplaced, misplaced_past, misplaced_other, located_read}
use Rattle.ert_judge.proofs.state.wheels.Wheel.locate.Goals as goal

pub returns-in_err-place : goal.returns-in_err-place
returns-in_err-place c =
    rw c.from_residual.ensures
    (unplaced c.self.inside.timers.items c.args.self.now c.self.inside.places c.args.wanted c.self.view_is
    c.self.invariant.placed c.in_err-place.ensures.value)

pub returns-in_err-timer : goal.returns-in_err-timer
returns-in_err-timer c =
    rw c.from_residual-in_err-timer.ensures
    (misplaced_past c.self.inside.timers.items c.deref.result.now c.args.self.now c.self.inside.places c.args.wanted
    c.in_ok-place.field-0.now c.deref.ensures.value c.self.view_is c.self.invariant.placed c.in_ok-place.ensures.value
    c.in_err-timer.ensures.lookup.3)

pub returns-then-eq : goal.returns-then-eq
returns-then-eq c =
    located_read c.self.inside.timers.items c.deref.result.now c.args.self.now c.self.inside.places c.args.wanted
    c.in_ok-place.field-0.now c.in_ok-timer.field-0.now c.deref.ensures.value c.self.view_is c.self.invariant.placed
    c.in_ok-place.ensures.value c.in_ok-timer.ensures.lookup.3.0 c.in_ok-timer.ensures.lookup.1 (sym c.if-eq.ensures)

pub returns-else-eq : goal.returns-else-eq
returns-else-eq c =
    misplaced_other c.self.inside.timers.items c.deref.result.now c.args.self.now c.self.inside.places c.args.wanted
    c.in_ok-place.field-0.now c.in_ok-timer.field-0.now c.deref.ensures.value c.self.view_is c.self.invariant.placed
    c.in_ok-place.ensures.value c.in_ok-timer.ensures.lookup.3.0 c.in_ok-timer.ensures.lookup.1 (sym c.if-eq.ensures)
