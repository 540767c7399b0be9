use Rattle.std.proofs.Common.{inr}
use Rattle.ert_table.specs.Desks.{settings_of}
use Rattle.ert_world.proofs.{Calls.{Has, has_at, parts_in, schedulers_at}, Listed.kept_by, CancelCalls.{cancel_called, does_cancel_at, gone_set, settled_then, stands_then}, Ending.{ended, ended_over, held_old, rows_fewer}}
use Rattle.ert_world.proofs.world.World.end_timer.Goals as goal

pub forget-requires-clause-stands : goal.forget-requires-clause-stands
forget-requires-clause-stands c =
    let has = has_at c.deref.ensures c.self.view_is c.self.invariant.sound in
    let done = cancel_called c.args.self.now c.self.inside c.deref.result.now c.cancel_timer-left.new.self c.args.timer c.cancel_timer-left.result has
    c.cancel_timer-left.ensures.belongs c.cancel_timer-left.ensures.call.call in
    stands_then c.deref.result.now c.cancel_timer-left.new.self c.self.inside.next (parts_in c.self.inside) c.args.timer.wheel c.index_mut.result.now done.fit
    (schedulers_at has c.args.timer.wheel c.requires.wheel) c.index_mut.ensures.value

pub forget-requires-clause-last : goal.forget-requires-clause-last
forget-requires-clause-last c =
    let has = has_at c.deref.ensures c.self.view_is c.self.invariant.sound in
    let held = held_old c.args.self.now c.self.inside c.deref.result.now c.args.timer.wheel c.index_mut.result.now c.args.timer has c.index_mut.ensures.value c.requires.held in
    record { low = held.low; named = held.named; used = inr held.row }

pub forget-requires-clause-settled : goal.forget-requires-clause-settled
forget-requires-clause-settled c =
    let has = has_at c.deref.ensures c.self.view_is c.self.invariant.sound in
    let held = held_old c.args.self.now c.self.inside c.deref.result.now c.args.timer.wheel c.index_mut.result.now c.args.timer has c.index_mut.ensures.value c.requires.held in
    let done = cancel_called c.args.self.now c.self.inside c.deref.result.now c.cancel_timer-left.new.self c.args.timer c.cancel_timer-left.result has
    c.cancel_timer-left.ensures.belongs c.cancel_timer-left.ensures.call.call in
    settled_then c.deref.result.now c.cancel_timer-left.new.self c.args.timer done.fit.belongs
    (ended_over c.args.self.now c.self.inside c.deref.result.now c.cancel_timer-left.new.self c.index_mut.result.now c.args.timer c.cancel_timer-left.result has
    c.requires.wheel c.index_mut.ensures.value held done c.cancel_timer-left.ensures.call)

pub invariant_of-self : goal.invariant_of-self
invariant_of-self c =
    let all =
    (let has = has_at c.deref.ensures c.self.view_is c.self.invariant.sound in
    let done = cancel_called c.args.self.now c.self.inside c.deref.result.now c.cancel_timer-left.new.self c.args.timer c.cancel_timer-left.result has
    c.cancel_timer-left.ensures.belongs c.cancel_timer-left.ensures.call.call in
    (does_cancel_at c.deref.ensures (ended c.args.self.now c.self.inside c.deref.result.now c.cancel_timer-left.new.self c.args.timer c.cancel_timer-left.result
    c.index_mut.result.now c.forget.new.self has done (schedulers_at has c.args.timer.wheel c.requires.wheel) c.index_mut.ensures.value c.forget.ensures.number
    (c.forget.ensures.stands (settings_of c.deref.result.now) done.fit.belongs.named) c.forget.ensures.loses c.forget.ensures.forgotten))) in
    kept_by c.self.inside c.self.inside.list c.self.view_is all.fit all.goes.grows c.self.invariant.listed

pub returns-clause-call : goal.returns-clause-call
returns-clause-call c =
    let has = has_at c.deref.ensures c.self.view_is c.self.invariant.sound in
    let done = cancel_called c.args.self.now c.self.inside c.deref.result.now c.cancel_timer-left.new.self c.args.timer c.cancel_timer-left.result has
    c.cancel_timer-left.ensures.belongs c.cancel_timer-left.ensures.call.call in
    (does_cancel_at c.deref.ensures (ended c.args.self.now c.self.inside c.deref.result.now c.cancel_timer-left.new.self c.args.timer c.cancel_timer-left.result
    c.index_mut.result.now c.forget.new.self has done (schedulers_at has c.args.timer.wheel c.requires.wheel) c.index_mut.ensures.value c.forget.ensures.number
    (c.forget.ensures.stands (settings_of c.deref.result.now) done.fit.belongs.named) c.forget.ensures.loses c.forget.ensures.forgotten)).goes

pub returns-clause-stays : goal.returns-clause-stays
returns-clause-stays c =
    let has = has_at c.deref.ensures c.self.view_is c.self.invariant.sound in
    let done = cancel_called c.args.self.now c.self.inside c.deref.result.now c.cancel_timer-left.new.self c.args.timer c.cancel_timer-left.result has
    c.cancel_timer-left.ensures.belongs c.cancel_timer-left.ensures.call.call in
    (does_cancel_at c.deref.ensures (ended c.args.self.now c.self.inside c.deref.result.now c.cancel_timer-left.new.self c.args.timer c.cancel_timer-left.result
    c.index_mut.result.now c.forget.new.self has done (schedulers_at has c.args.timer.wheel c.requires.wheel) c.index_mut.ensures.value c.forget.ensures.number
    (c.forget.ensures.stands (settings_of c.deref.result.now) done.fit.belongs.named) c.forget.ensures.loses c.forget.ensures.forgotten)).stays

pub returns-clause-forgotten : goal.returns-clause-forgotten
returns-clause-forgotten c =
    let has : Has c.args.self.now c.self.inside c.deref.result.now = has_at c.deref.ensures c.self.view_is c.self.invariant.sound in
    gone_set c.self.inside.wheels.items c.args.timer.wheel c.forget.new.self c.args.timer
    (rw has.fit.stand.wheels.counted (schedulers_at has c.args.timer.wheel c.requires.wheel)) c.forget.ensures.forgotten

pub returns-clause-fewer : goal.returns-clause-fewer
returns-clause-fewer c =
    let has = has_at c.deref.ensures c.self.view_is c.self.invariant.sound in
    let held = held_old c.args.self.now c.self.inside c.deref.result.now c.args.timer.wheel c.index_mut.result.now c.args.timer has c.index_mut.ensures.value c.requires.held in
    rows_fewer c.args.self.now c.self.inside c.deref.result.now c.args.timer c.index_mut.result.now c.forget.new.self has c.requires.wheel c.index_mut.ensures.value held
    (c.forget.ensures.held held)
