use Rattle.std.proofs.Common.{subst, sym, arith}
use Rattle.ert_wheel.proofs.Climbing.{climb_starts, reads, climb_finds, climbs_on, climb_falls, climb_ends}
use Rattle.ert_wheel.proofs.oldest.oldest_due.Goals as goal
use Rattle.ert_wheel.specs.{FirstDue.IsOldestDue, Rows.row_told, Wheels.{no_key, held_keys, places}}

pub loop-next-init : goal.loop-next-init
loop-next-init g c = λ spot are.
    climb_starts c.args.chains.now (held_keys c.args.chains.now c.args.kept.now.keys) spot c.args.bucket c.args.to c.oldest-next.result c.requires.may.slots
    (c.oldest-next.ensures.finds (places spot (held_keys c.args.chains.now c.args.kept.now.keys)) are)

pub deadline-deadline-requires : goal.deadline-deadline-requires
deadline-deadline-requires g c =
    let may = c.requires.may in
    (reads c.args.chains.now c.args.kept.now.keys may.spot c.args.bucket c.args.to c.in-Some.slot c.loop-next.next no_key
    (record { slots = may.slots; are = may.are; climbed = c.loop-next.invariant may.spot may.are; is = c.in-Some.is })).low

pub returns-then-deadline-to : goal.returns-then-deadline-to
returns-then-deadline-to g c = λ spot are.
    let keys = held_keys c.args.chains.now c.args.kept.now.keys in
    subst (λ n. IsOldestDue keys spot c.args.bucket c.args.to (row_told keys (record { deadline = n; slot = c.in-Some.slot }))) (sym c.deadline-deadline.ensures)
    (climb_finds c.args.chains.now c.args.kept.now.keys spot c.args.bucket c.args.to c.in-Some.slot c.loop-next.next no_key
    (record { slots = c.requires.may.slots; are = are; climbed = c.loop-next.invariant spot are; is = c.in-Some.is })
    (omega (arith, c.if-deadline-to.true, c.deadline-deadline.ensures)))

pub loop-next-smaller : goal.loop-next-smaller
loop-next-smaller g c =
    let may = c.requires.may in
    climb_falls c.args.chains.now c.args.kept.now.keys may.spot c.args.bucket c.args.to c.in-Some.slot c.loop-next.next c.newer-next.result
    (record { slots = may.slots; are = may.are; climbed = c.loop-next.invariant may.spot may.are; is = c.in-Some.is }) c.newer-next.ensures.link

pub loop-next-preserved : goal.loop-next-preserved
loop-next-preserved g c = λ spot are.
    climbs_on c.args.chains.now c.args.kept.now.keys spot c.args.bucket c.args.to c.in-Some.slot c.loop-next.next c.newer-next.result no_key
    (record { slots = c.requires.may.slots; are = are; climbed = c.loop-next.invariant spot are; is = c.in-Some.is })
    (omega (arith, c.if-deadline-to.false, c.deadline-deadline.ensures)) c.newer-next.ensures.finds

pub returns : goal.returns
returns g c = λ spot are.
    climb_ends (held_keys c.args.chains.now c.args.kept.now.keys) spot c.args.bucket c.args.to c.loop-next.next c.in_default.is (c.loop-next.invariant spot are)

pub newer-next-requires : goal.newer-next-requires
newer-next-requires g c =
    let may = c.requires.may in
    let low = (reads c.args.chains.now c.args.kept.now.keys may.spot c.args.bucket c.args.to c.in-Some.slot c.loop-next.next no_key
    (record { slots = may.slots; are = may.are; climbed = c.loop-next.invariant may.spot may.are; is = c.in-Some.is })).low in
    omega (arith, low, c.requires.kept)
