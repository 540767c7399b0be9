use Rattle.std.proofs.Common.{rules, ◌≡◌, ℕ, ◌+◌, [], ◌∷◌, ◌++◌, sym, subst, ◌∙◌}
use Rattle.ert_ops.specs.{Races.IsCallersOp, Ranges.IsOpInRange, declared.op.Op.Op}
use Rattle.ert_table.specs.Desks.{front_of}
use Rattle.ert_program.specs.Workers.{DoesOwn, FailsOwn}
use Rattle.ert_program.proofs.ListsMade.{may_do_at, list_more_at, some_done, reply_lost}
use Rattle.ert_program.proofs.races.list.do_list.Goals as goal

pub do_one-requires-clause-callers : goal.do_one-requires-clause-callers
do_one-requires-clause-callers g c =
    subst IsCallersOp (sym c.op-item.is)
    (may_do_at g.L.DeskName.settings c.args.ops.now c.loop-op.op-index c.op-item.result c.loop-op-test.true c.requires).0

pub do_one-requires-clause-range : goal.do_one-requires-clause-range
do_one-requires-clause-range g c =
    subst (IsOpInRange g.L.DeskName.settings) (sym c.op-item.is)
    (may_do_at g.L.DeskName.settings c.args.ops.now c.loop-op.op-index c.op-item.result c.loop-op-test.true c.requires).1

pub loop-op-preserved : goal.loop-op-preserved
loop-op-preserved g c =
    let s = g.L.DeskName.settings in
    let n = c.args.doer.now.session.seat.number in
    let f = front_of c.args.doer.now.session.seat.pass in
    let h = front_of c.loop-op.doer.session.seat.pass in
    let k = front_of c.do_one.new.doer.session.seat.pass in
    let own = c.loop-op.own in
    let own_new = c.do_one.new.own in
    let kept : c.push.new.self.items ≡ c.loop-op.replies.items ++ c.in-Ok.reply ∷ [] = search rules in
    let done = rw c.in-Ok.is at c.do_one.ensures.answer.does in
    let own_done = subst (λ (m : ℕ). DoesOwn s m c.args.known.now own c.op-item.result c.in-Ok.reply own_new h k) c.loop-op.invariant.number done in
    let done_at = subst (λ (op : Op). DoesOwn s n c.args.known.now own op c.in-Ok.reply own_new h k) c.op-item.is own_done in
    record {
      number = c.do_one.ensures.number ∙ c.loop-op.invariant.number;
      so_far = rw kept
          (list_more_at s n c.args.known.now c.args.ops.now c.loop-op.op-index c.op-item.result c.loop-op.replies.items own own_new f h k c.in-Ok.reply
          c.loop-op-test.true c.loop-op.invariant.so_far done_at);
    }

pub returns-in-Err-clause-stops : goal.returns-in-Err-clause-stops
returns-in-Err-clause-stops g c =
    let s = g.L.DeskName.settings in
    let n = c.args.doer.now.session.seat.number in
    let h = front_of c.loop-op.doer.session.seat.pass in
    let k = front_of c.do_one.new.doer.session.seat.pass in
    let own = c.loop-op.own in
    let fails = rw c.in-Err.is at c.do_one.ensures.answer.fails in
    let own_fails = subst (λ (m : ℕ). FailsOwn s m c.args.known.now own c.op-item.result h k) c.loop-op.invariant.number fails in
    some_done s n c.args.known.now c.args.ops.now c.loop-op.op-index c.op-item.result c.loop-op.replies.items own (front_of c.args.doer.now.session.seat.pass) h k
    c.loop-op-test.true c.loop-op.invariant.so_far (subst (λ (op : Op). FailsOwn s n c.args.known.now own op h k) c.op-item.is own_fails)

pub returns-then-is_err-clause-stops : goal.returns-then-is_err-clause-stops
returns-then-is_err-clause-stops g c =
    let s = g.L.DeskName.settings in
    let n = c.args.doer.now.session.seat.number in
    let f = front_of c.args.doer.now.session.seat.pass in
    let h = front_of c.loop-op.doer.session.seat.pass in
    let k = front_of c.do_one.new.doer.session.seat.pass in
    let own = c.loop-op.own in
    let own_new = c.do_one.new.own in
    let done = rw c.in-Ok.is at c.do_one.ensures.answer.does in
    let own_done = subst (λ (m : ℕ). DoesOwn s m c.args.known.now own c.op-item.result c.in-Ok.reply own_new h k) c.loop-op.invariant.number done in
    let done_at = subst (λ (op : Op). DoesOwn s n c.args.known.now own op c.in-Ok.reply own_new h k) c.op-item.is own_done in
    reply_lost s n c.args.known.now c.args.ops.now (c.loop-op.op-index + 1) (c.loop-op.replies.items ++ c.in-Ok.reply ∷ []) own_new f k
    (list_more_at s n c.args.known.now c.args.ops.now c.loop-op.op-index c.op-item.result c.loop-op.replies.items own own_new f h k c.in-Ok.reply
    c.loop-op-test.true c.loop-op.invariant.so_far done_at)
