use Rattle.std.proofs.Common.{List, [], ◌∷◌, ◌++◌, ap, refl, subst, sym, ◌∙◌, arith}
use Rattle.ert_wheel.proofs.{Collect.reads_here, Collecting.{IsCollecting, collect_starts, collect_ends, collect_room, turn_adds, turn_falls, turn_leaves}}
use Rattle.ert_wheel.proofs.walk.collect.Goals as goal
use Rattle.ert_wheel.specs.{Wheels.{no_key, held_keys, places}, declared.row.HeldRow.HeldRow}

pub loop-next-init : goal.loop-next-init
loop-next-init g c = record {
  room = refl;
  walks = λ spot may.
      collect_starts c.args.chains.now (held_keys c.args.chains.now c.args.kept.now.keys) spot c.args.bucket c.args.to c.oldest-next.result c.args.rows.now.items may
      (c.oldest-next.ensures.finds (places spot (held_keys c.args.chains.now c.args.kept.now.keys)) may.are);
}

pub push_reserved-requires : goal.push_reserved-requires
push_reserved-requires g c =
    let may = c.requires.may in
    let room = collect_room c.args.chains.now c.args.kept.now.keys may.spot c.args.bucket c.args.to c.in-Some.slot c.loop-next.next c.newer-next.result c.args.rows.now.items c.loop-next.rows.items no_key
    (record { may = may.may; so_far = c.loop-next.invariant.walks may.spot may.may; is = c.in-Some.is; newer = c.newer-next.ensures.finds }) (omega (arith, c.if-deadline-to.true, c.deadline-deadline.ensures)) in
    omega (arith, room, c.requires.room, c.loop-next.invariant.room, c.loop-next.rows.ok.0)

pub loop-next-preserved-then-deadline-to : goal.loop-next-preserved-then-deadline-to
loop-next-preserved-then-deadline-to g c = record {
  room = c.push_reserved.ensures.capacity ∙ c.loop-next.invariant.room;
  walks = λ spot may.
      subst (λ (rows : List HeldRow). IsCollecting (held_keys c.args.chains.now c.args.kept.now.keys) spot c.args.bucket c.args.to c.newer-next.result c.args.rows.now.items rows)
      (sym (c.push_reserved.ensures.items
      ∙ ap (λ n. c.loop-next.rows.items ++ record { deadline = n; slot = c.in-Some.slot } ∷ []) c.deadline-deadline.ensures))
      (turn_adds c.args.chains.now c.args.kept.now.keys spot c.args.bucket c.args.to c.in-Some.slot c.loop-next.next c.newer-next.result c.args.rows.now.items c.loop-next.rows.items no_key
      (record { may = may; so_far = c.loop-next.invariant.walks spot may; is = c.in-Some.is; newer = c.newer-next.ensures.finds })
      (omega (arith, c.if-deadline-to.true, c.deadline-deadline.ensures)));
}

pub loop-next-smaller-then-deadline-to : goal.loop-next-smaller-then-deadline-to
loop-next-smaller-then-deadline-to g c =
    let may = c.requires.may in
    turn_falls c.args.chains.now c.args.kept.now.keys may.spot c.args.bucket c.args.to c.in-Some.slot c.loop-next.next c.newer-next.result c.args.rows.now.items c.loop-next.rows.items no_key (record { may = may.may; so_far = c.loop-next.invariant.walks may.spot may.may; is = c.in-Some.is; newer = c.newer-next.ensures.finds }) c.newer-next.ensures.link

pub loop-next-smaller : goal.loop-next-smaller
loop-next-smaller g c =
    let may = c.requires.may in
    turn_falls c.args.chains.now c.args.kept.now.keys may.spot c.args.bucket c.args.to c.in-Some.slot c.loop-next.next c.newer-next.result c.args.rows.now.items c.loop-next.rows.items no_key (record { may = may.may; so_far = c.loop-next.invariant.walks may.spot may.may; is = c.in-Some.is; newer = c.newer-next.ensures.finds }) c.newer-next.ensures.link

pub loop-next-preserved : goal.loop-next-preserved
loop-next-preserved g c = record {
  room = c.loop-next.invariant.room;
  walks = λ spot may.
      turn_leaves c.args.chains.now c.args.kept.now.keys spot c.args.bucket c.args.to c.in-Some.slot c.loop-next.next c.newer-next.result c.args.rows.now.items c.loop-next.rows.items no_key
      (record { may = may; so_far = c.loop-next.invariant.walks spot may; is = c.in-Some.is; newer = c.newer-next.ensures.finds }) (omega (arith, c.if-deadline-to.false, c.deadline-deadline.ensures));
}

pub returns-clause-collects : goal.returns-clause-collects
returns-clause-collects g c = λ spot may.
    collect_ends c.args.chains.now (held_keys c.args.chains.now c.args.kept.now.keys) spot c.args.bucket c.args.to c.loop-next.next c.args.rows.now.items c.loop-next.rows.items may
    c.in_default.is (c.loop-next.invariant.walks spot may)

pub newer-next-requires : goal.newer-next-requires
newer-next-requires g c =
    let may = c.requires.may in
    let r = reads_here c.args.chains.now c.args.kept.now.keys may.spot c.args.bucket c.in-Some.slot c.loop-next.next no_key (c.loop-next.invariant.walks may.spot may.may).stands c.in-Some.is in
    omega (arith, r.low, c.requires.kept)

pub deadline-deadline-requires : goal.deadline-deadline-requires
deadline-deadline-requires g c =
    let may = c.requires.may in
    (reads_here c.args.chains.now c.args.kept.now.keys may.spot c.args.bucket c.in-Some.slot c.loop-next.next no_key (c.loop-next.invariant.walks may.spot may.may).stands c.in-Some.is).low
