use Rattle.std.proofs.Common.{◌≡◌, Err, rules, refl, arith}
use Rattle.ert_table.specs.Desks.{settings_of, view_of}
use Rattle.ert_world.proofs.{Alone.stays_by, Calls.{has_at, does_at}, Listed.kept_by, WheelCalls.{lost_rows, replaced_passed}, Advances.{advance_ok, advance_refused}, TriedHeld.tries_held_at}
use Rattle.ert_timers.proofs.SchedParts.{advance_fits}
use Rattle.ert_world.proofs.world.World.advance.Goals as goal

pub invariant_of-self : goal.invariant_of-self
invariant_of-self c =
    let all =
    ((does_at c.deref.ensures (advance_refused c.args.self.now c.self.inside c.deref.result.now c.advance.new.pass c.args.sched c.in_err-to.field-0.0 c.index_mut.result.now c.advance.new.self
    c.index_mut-part.result.now (record { wheel = c.index_mut-part.result.now.wheel; hand = c.index_mut-part.result.now.hand; expired = c.advance.new.expired })
    (has_at c.deref.ensures c.self.view_is c.self.invariant.sound) c.advance.ensures.belongs c.requires c.index_mut.ensures.value c.index_mut-part.ensures.value c.advance.ensures.number
    c.advance.ensures.stands c.advance.ensures.loses c.in_err-to.ensures.call refl refl))) in
    kept_by c.self.inside c.self.inside.list c.self.view_is all.fit all.goes.grows c.self.invariant.listed

pub returns-in_err-to-clause-call : goal.returns-in_err-to-clause-call
returns-in_err-to-clause-call c =
    let result : c.from_residual.result ≡ Err c.in_err-to.field-0.0 = search rules in
    rw result (does_at c.deref.ensures (advance_refused c.args.self.now c.self.inside c.deref.result.now c.advance.new.pass c.args.sched c.in_err-to.field-0.0 c.index_mut.result.now c.advance.new.self
    c.index_mut-part.result.now (record { wheel = c.index_mut-part.result.now.wheel; hand = c.index_mut-part.result.now.hand; expired = c.advance.new.expired })
    (has_at c.deref.ensures c.self.view_is c.self.invariant.sound) c.advance.ensures.belongs c.requires c.index_mut.ensures.value c.index_mut-part.ensures.value c.advance.ensures.number
    c.advance.ensures.stands c.advance.ensures.loses c.in_err-to.ensures.call refl refl)).goes

pub overflow_cast-result : goal.overflow_cast-result
overflow_cast-result c =
    let g = settings_of c.deref.result.now in
    let few = advance_fits g c.index_mut.result.now.number c.in_ok-to.to c.len.result c.len-before.result
    c.index_mut-part.result.now.expired c.advance.new.expired (view_of c.self.inside.pass) (view_of c.advance.new.pass)
    c.deref.result.now.checked.counts.slots_high c.in_ok-to.ensures.call c.len.ensures c.len-before.ensures in
    omega (arith, few.1)

pub invariant_of-self-2 : goal.invariant_of-self-2
invariant_of-self-2 c =
    let all =
    ((does_at c.deref.ensures (advance_ok c.args.self.now c.self.inside c.deref.result.now c.advance.new.pass c.args.sched c.in_ok-to.to c.len.result c.len-before.result c.index_mut.result.now
    c.advance.new.self c.index_mut-part.result.now (record { wheel = c.index_mut-part.result.now.wheel; hand = c.index_mut-part.result.now.hand; expired = c.advance.new.expired })
    (has_at c.deref.ensures c.self.view_is c.self.invariant.sound) c.advance.ensures.belongs c.requires c.index_mut.ensures.value c.index_mut-part.ensures.value c.advance.ensures.number
    c.advance.ensures.stands c.advance.ensures.loses c.in_ok-to.ensures.call refl refl c.len.ensures c.len-before.ensures))) in
    kept_by c.self.inside c.self.inside.list c.self.view_is all.fit all.goes.grows c.self.invariant.listed

pub returns-clause-call : goal.returns-clause-call
returns-clause-call c =
    (does_at c.deref.ensures (advance_ok c.args.self.now c.self.inside c.deref.result.now c.advance.new.pass c.args.sched c.in_ok-to.to c.len.result c.len-before.result c.index_mut.result.now
    c.advance.new.self c.index_mut-part.result.now (record { wheel = c.index_mut-part.result.now.wheel; hand = c.index_mut-part.result.now.hand; expired = c.advance.new.expired })
    (has_at c.deref.ensures c.self.view_is c.self.invariant.sound) c.advance.ensures.belongs c.requires c.index_mut.ensures.value c.index_mut-part.ensures.value c.advance.ensures.number
    c.advance.ensures.stands c.advance.ensures.loses c.in_ok-to.ensures.call refl refl c.len.ensures c.len-before.ensures)).goes

pub returns-clause-stays : goal.returns-clause-stays
returns-clause-stays c =
    let done =
    (does_at c.deref.ensures (advance_ok c.args.self.now c.self.inside c.deref.result.now c.advance.new.pass c.args.sched c.in_ok-to.to c.len.result c.len-before.result c.index_mut.result.now
    c.advance.new.self c.index_mut-part.result.now (record { wheel = c.index_mut-part.result.now.wheel; hand = c.index_mut-part.result.now.hand; expired = c.advance.new.expired })
    (has_at c.deref.ensures c.self.view_is c.self.invariant.sound) c.advance.ensures.belongs c.requires c.index_mut.ensures.value c.index_mut-part.ensures.value c.advance.ensures.number
    c.advance.ensures.stands c.advance.ensures.loses c.in_ok-to.ensures.call refl refl c.len.ensures c.len-before.ensures)) in
    stays_by done.goes
    (lost_rows c.args.self.now c.self.inside c.deref.result.now c.args.sched c.index_mut.result.now c.advance.new.self
    (has_at c.deref.ensures c.self.view_is c.self.invariant.sound) c.requires c.index_mut.ensures.value c.advance.ensures.loses) done.forgets

pub returns-in_err-to-clause-stays : goal.returns-in_err-to-clause-stays
returns-in_err-to-clause-stays c =
    let done =
    does_at c.deref.ensures (advance_refused c.args.self.now c.self.inside c.deref.result.now c.advance.new.pass c.args.sched c.in_err-to.field-0.0 c.index_mut.result.now c.advance.new.self
    c.index_mut-part.result.now (record { wheel = c.index_mut-part.result.now.wheel; hand = c.index_mut-part.result.now.hand; expired = c.advance.new.expired })
    (has_at c.deref.ensures c.self.view_is c.self.invariant.sound) c.advance.ensures.belongs c.requires c.index_mut.ensures.value c.index_mut-part.ensures.value c.advance.ensures.number
    c.advance.ensures.stands c.advance.ensures.loses c.in_err-to.ensures.call refl refl) in
    stays_by done.goes
    (lost_rows c.args.self.now c.self.inside c.deref.result.now c.args.sched c.index_mut.result.now c.advance.new.self
    (has_at c.deref.ensures c.self.view_is c.self.invariant.sound) c.requires c.index_mut.ensures.value c.advance.ensures.loses) done.forgets

pub returns-clause-passed : goal.returns-clause-passed
returns-clause-passed c =
    replaced_passed c.self.inside c.deref.result.now c.args.sched c.in_ok-to.to c.advance.new.self
    (has_at c.deref.ensures c.self.view_is c.self.invariant.sound) c.requires c.in_ok-to.ensures.passed

pub returns-clause-held : goal.returns-clause-held
returns-clause-held c =
    tries_held_at c.args.self.now c.self.inside c.deref.result.now _ c.advance.new.pass c.args.sched c.in_ok-to.to c.index_mut.result.now c.advance.new.self
    c.index_mut-part.result.now (record { wheel = c.index_mut-part.result.now.wheel; hand = c.index_mut-part.result.now.hand; expired = c.advance.new.expired })
    c.deref.ensures c.self.view_is c.self.invariant.sound c.advance.ensures.belongs c.requires c.index_mut.ensures.value c.index_mut-part.ensures.value c.advance.ensures.number
    c.advance.ensures.stands c.advance.ensures.loses c.in_ok-to.ensures.call refl refl c.in_ok-to.ensures.held
