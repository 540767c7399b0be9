use Rattle.std.proofs.Common.{ℕ, min, ap, ◌∙◌, subst, sym, arith}
use Rattle.ert_wheel.proofs.{Looking.{at_key, stands_low, steps_fall}, Least.{IsPassed, never_over, is_answered, passes_none, steps_on, passes_all}}
use Rattle.ert_wheel.proofs.walk.least_in.Goals as goal
use Rattle.ert_wheel.specs.{Wheels.{no_key, held_keys, places}, declared.telling.Early.Early, declared.row.TheConstants.NEVER}

pub loop-next-init : goal.loop-next-init
loop-next-init g c = λ spot are.
    passes_none c.args.chains.now (held_keys c.args.chains.now c.args.kept.now.keys) spot c.args.bucket NEVER c.newest-next.result c.requires.may.slots are
    (c.newest-next.ensures.finds (places spot (held_keys c.args.chains.now c.args.kept.now.keys)) are)

pub loop-next-smaller : goal.loop-next-smaller
loop-next-smaller g c =
    let may = c.requires.may in
    steps_fall c.args.chains.now c.args.kept.now.keys may.spot c.args.bucket c.in-Some.slot c.loop-next.next c.older-next.result
    (record { slots = may.slots; are = may.are; stands = (c.loop-next.invariant may.spot may.are).stands; is = c.in-Some.is; older = c.older-next.ensures.finds })
    c.older-next.ensures.link

pub loop-next-preserved : goal.loop-next-preserved
loop-next-preserved g c = λ spot are.
    subst (λ (least : ℕ). IsPassed (held_keys c.args.chains.now c.args.kept.now.keys) spot c.args.bucket NEVER c.older-next.result least) (sym (c.earlier-least.ensures ∙ ap (min c.loop-next.least.time) c.deadline-time.ensures))
    (steps_on c.args.chains.now c.args.kept.now.keys spot c.args.bucket NEVER c.in-Some.slot c.loop-next.next c.older-next.result c.loop-next.least.time no_key
    (record { slots = c.requires.may.slots; are = are; stands = (c.loop-next.invariant spot are).stands; is = c.in-Some.is; older = c.older-next.ensures.finds })
    (c.loop-next.invariant spot are))

pub returns-clause-least : goal.returns-clause-least
returns-clause-least g c = λ spot are.
    passes_all (held_keys c.args.chains.now c.args.kept.now.keys) spot c.args.bucket NEVER c.loop-next.next c.loop-next.least.time c.in_default.is (c.loop-next.invariant spot are)

pub deadline-time-requires : goal.deadline-time-requires
deadline-time-requires g c =
    let may = c.requires.may in
    (at_key c.args.chains.now c.args.kept.now.keys may.spot c.args.bucket c.in-Some.slot c.loop-next.next c.older-next.result no_key
    (record { slots = may.slots; are = may.are; stands = (c.loop-next.invariant may.spot may.are).stands; is = c.in-Some.is; older = c.older-next.ensures.finds })).low

pub returns-then-has_seen-clause-all : goal.returns-then-has_seen-clause-all
returns-then-has_seen-clause-all g c = never_over Early c.args.most c.has_seen.result c.has_seen.ensures c.if-has_seen.true

pub returns-clause-all : goal.returns-clause-all
returns-clause-all g c = is_answered c.args.most c.loop-next.least

pub older-next-requires : goal.older-next-requires
older-next-requires g c =
    let may = c.requires.may in
    let low = stands_low c.args.chains.now c.args.kept.now.keys may.spot c.args.bucket c.in-Some.slot c.loop-next.next
    (c.loop-next.invariant may.spot may.are).stands c.in-Some.is in
    omega (arith, low, c.requires.kept)
