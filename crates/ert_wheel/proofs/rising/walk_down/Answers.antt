use Rattle.std.proofs.Common.{arith}
use Rattle.ert_wheel.proofs.{Risen.{older_due, step_on, step_ends}, Views.key_stored}
use Rattle.ert_wheel.proofs.rising.walk_down.Goals as goal

pub older-requires : goal.older-requires
older-requires g c =
    let due = c.loop-older.invariant.is_due in
    omega (arith, key_stored c.args.chains.now c.args.kept.now.keys c.loop-older.ordered.rising due.key due.has, c.requires.kept)

pub order-requires-in-Some-older : goal.order-requires-in-Some-older
order-requires-in-Some-older g c =
    let due = c.loop-older.invariant.is_due in
    key_stored c.args.chains.now c.args.kept.now.keys c.loop-older.ordered.rising due.key due.has

pub loop-older-preserved : goal.loop-older-preserved
loop-older-preserved g c = record {
  time = c.loop-older.invariant.time;
  is_due = older_due c.loop-older.ordered.rising c.in-Some-older.older c.requires.wheel.1 c.loop-older.invariant.is_due c.in-Some-older.ensures.finds;
  is_wheel = λ count w.
      step_on c.args.kept.now.keys c.in-Some-older.older c.loop-older.invariant.time c.loop-older.invariant.is_due c.in-Some-older.ensures.finds
      (omega (arith, c.if-order.false, c.order.ensures, c.order-in-Some-older.ensures)) (c.loop-older.invariant.is_wheel count w);
  low = omega (arith, c.loop-older.invariant.low);
  same = c.loop-older.invariant.same;
}

pub returns-clause-wheel : goal.returns-clause-wheel
returns-clause-wheel g c = λ count w.
    step_ends c.loop-older.invariant.time c.loop-older.invariant.is_due c.in_default-older.ensures.finds (c.loop-older.invariant.is_wheel count w)
