use Rattle.std.proofs.Common.{◌<◌, Some, None, sym, subst, ◌∙◌}
use Rattle.ert_table.specs.{Desks.settings_of, declared.desk.Desk.Desk}
use Rattle.ert_timers.specs.{Freeing.IsLast, Parts.Part}
use Rattle.ert_world.proofs.{Calls.{has_at, parts_in}, Listed.kept_by, CancelCalls.{cancel_called, cancelled_none, cancelled_some, does_cancel_at, gone_set, settled_then, stands_then}}
use Rattle.ert_world.proofs.world.World.cancel_by_name.Goals as goal

pub invariant_of-self : goal.invariant_of-self
invariant_of-self c =
    let all =
    (let has = has_at c.deref.ensures c.self.view_is c.self.invariant.sound in
    (does_cancel_at c.deref.ensures (cancelled_none c.args.self.now c.self.inside c.deref.result.now c.cancel_timer.new.self (parts_in c.self.inside) c.args.timer _ has
    (cancel_called c.args.self.now c.self.inside c.deref.result.now c.cancel_timer.new.self c.args.timer None has c.cancel_timer.ensures.belongs
    ((c.in_err-left.ensures {u = tt}).call.call))))) in
    kept_by c.self.inside c.self.inside.list c.self.view_is all.fit all.goes.grows c.self.invariant.listed

pub returns-in_err-left-clause-call : goal.returns-in_err-left-clause-call
returns-in_err-left-clause-call c =
    let has = has_at c.deref.ensures c.self.view_is c.self.invariant.sound in
    rw c.from_residual.ensures (does_cancel_at c.deref.ensures (cancelled_none c.args.self.now c.self.inside c.deref.result.now c.cancel_timer.new.self
    (parts_in c.self.inside) c.args.timer _ has
    (cancel_called c.args.self.now c.self.inside c.deref.result.now c.cancel_timer.new.self c.args.timer None has c.cancel_timer.ensures.belongs
    ((c.in_err-left.ensures {u = tt}).call.call)))).goes

pub index_mut-requires : goal.index_mut-requires
index_mut-requires c =
    let has = has_at c.deref.ensures c.self.view_is c.self.invariant.sound in
    let done = cancel_called c.args.self.now c.self.inside c.deref.result.now c.cancel_timer.new.self c.args.timer (Some c.in_ok-left.left) has
    c.cancel_timer.ensures.belongs c.in_ok-left.ensures.call.call in
    rw (c.self.inside.wheels.ok.0 ∙ c.self.invariant.sound.fit.stand.wheels.counted)
    (subst (λ (d : Desk). c.args.timer.wheel < (settings_of d).schedulers) c.deref.ensures done.goes.gone.0)

pub forget-requires-clause-stands : goal.forget-requires-clause-stands
forget-requires-clause-stands c =
    let has = has_at c.deref.ensures c.self.view_is c.self.invariant.sound in
    let done = cancel_called c.args.self.now c.self.inside c.deref.result.now c.cancel_timer.new.self c.args.timer (Some c.in_ok-left.left) has
    c.cancel_timer.ensures.belongs c.in_ok-left.ensures.call.call in
    stands_then c.deref.result.now c.cancel_timer.new.self c.self.inside.next (parts_in c.self.inside) c.args.timer.wheel c.index_mut.result.now done.fit
    done.goes.gone.0 c.index_mut.ensures.value

pub forget-requires-clause-last : goal.forget-requires-clause-last
forget-requires-clause-last c =
    let has = has_at c.deref.ensures c.self.view_is c.self.invariant.sound in
    let done = cancel_called c.args.self.now c.self.inside c.deref.result.now c.cancel_timer.new.self c.args.timer (Some c.in_ok-left.left) has
    c.cancel_timer.ensures.belongs c.in_ok-left.ensures.call.call in
    subst (λ (p : Part). IsLast p c.args.timer) (sym c.index_mut.ensures.value) (done.goes.gone.2 c.index_mut.result.now)

pub forget-requires-clause-settled : goal.forget-requires-clause-settled
forget-requires-clause-settled c =
    let has = has_at c.deref.ensures c.self.view_is c.self.invariant.sound in
    let done = cancel_called c.args.self.now c.self.inside c.deref.result.now c.cancel_timer.new.self c.args.timer (Some c.in_ok-left.left) has
    c.cancel_timer.ensures.belongs c.in_ok-left.ensures.call.call in
    settled_then c.deref.result.now c.cancel_timer.new.self c.args.timer done.fit.belongs done.goes.gone.1

pub invariant_of-self-2 : goal.invariant_of-self-2
invariant_of-self-2 c =
    let all =
    (let has = has_at c.deref.ensures c.self.view_is c.self.invariant.sound in
    let done = cancel_called c.args.self.now c.self.inside c.deref.result.now c.cancel_timer.new.self c.args.timer (Some c.in_ok-left.left) has
    c.cancel_timer.ensures.belongs c.in_ok-left.ensures.call.call in
    (does_cancel_at c.deref.ensures (cancelled_some c.args.self.now c.self.inside c.deref.result.now c.cancel_timer.new.self (parts_in c.self.inside) c.args.timer
    c.in_ok-left.left c.index_mut.result.now c.forget.new.self _ has done c.index_mut.ensures.value c.forget.ensures.number
    (c.forget.ensures.stands (settings_of c.deref.result.now) done.fit.belongs.named) c.forget.ensures.loses c.forget.ensures.forgotten))) in
    kept_by c.self.inside c.self.inside.list c.self.view_is all.fit all.goes.grows c.self.invariant.listed

pub returns-clause-call : goal.returns-clause-call
returns-clause-call c =
    let has = has_at c.deref.ensures c.self.view_is c.self.invariant.sound in
    let done = cancel_called c.args.self.now c.self.inside c.deref.result.now c.cancel_timer.new.self c.args.timer (Some c.in_ok-left.left) has
    c.cancel_timer.ensures.belongs c.in_ok-left.ensures.call.call in
    (does_cancel_at c.deref.ensures (cancelled_some c.args.self.now c.self.inside c.deref.result.now c.cancel_timer.new.self (parts_in c.self.inside) c.args.timer
    c.in_ok-left.left c.index_mut.result.now c.forget.new.self _ has done c.index_mut.ensures.value c.forget.ensures.number
    (c.forget.ensures.stands (settings_of c.deref.result.now) done.fit.belongs.named) c.forget.ensures.loses c.forget.ensures.forgotten)).goes

pub returns-clause-forgotten : goal.returns-clause-forgotten
returns-clause-forgotten c =
    let has = has_at c.deref.ensures c.self.view_is c.self.invariant.sound in
    let done = cancel_called c.args.self.now c.self.inside c.deref.result.now c.cancel_timer.new.self c.args.timer (Some c.in_ok-left.left) has
    c.cancel_timer.ensures.belongs c.in_ok-left.ensures.call.call in
    gone_set c.self.inside.wheels.items c.args.timer.wheel c.forget.new.self c.args.timer
    (rw has.fit.stand.wheels.counted done.goes.gone.0) c.forget.ensures.forgotten
