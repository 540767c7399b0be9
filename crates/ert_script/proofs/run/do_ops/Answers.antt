use Rattle.std.proofs.Common.{sym, subst}
use Rattle.std.proofs.lemmas.Result.{err_from_is_err_and}
use Rattle.ert_ops.specs.{Ranges.IsOpInRange, declared.op.Op.Op}
use Rattle.ert_script.specs.Scripts.{DoesWith, Fails}
use Rattle.ert_script.proofs.Runs.{op_may, done_none, done_more, some_done}
use Rattle.ert_script.proofs.run.do_ops.Goals as goal

pub loop-op-init : goal.loop-op-init
loop-op-init c = done_none c.args.world.now c.args.labels.now c.history_stands.ensures

pub reply_op-requires-clause-range : goal.reply_op-requires-clause-range
reply_op-requires-clause-range c =
    subst (λ (op : Op). IsOpInRange c.loop-op.world.settings op) (sym c.op-item.is)
    (op_may c.args.world.now.settings c.loop-op.world c.args.ops.now c.loop-op.op-index c.op-item.result c.loop-op-test.true
    c.loop-op.invariant.runs.settings c.requires.ranges)

pub returns-in_err-reply_op-clause-err : goal.returns-in_err-reply_op-clause-err
returns-in_err-reply_op-clause-err c =
    let p = err_from_is_err_and c.from_residual.result c.from_residual.ensures.1 in
    rw (p.1, c.in_err-reply_op.ensures.labels)
    (some_done c.args.world.now c.loop-op.world c.reply_op.new.world c.args.labels.now c.loop-op.labels c.args.ops.now c.loop-op.op-index c.op-item.result
    c.loop-op-test.true c.loop-op.invariant (subst (λ (op : Op). Fails c.loop-op.world c.loop-op.labels op c.reply_op.new.world) c.op-item.is c.in_err-reply_op.ensures.err))

pub loop-op-preserved : goal.loop-op-preserved
loop-op-preserved c =
    let done = subst (λ (op : Op). DoesWith c.loop-op.world c.loop-op.labels op c.in_ok-reply_op.field-0 c.reply_op.new.world c.reply_op.new.labels) c.op-item.is
    c.in_ok-reply_op.ensures.ok in
    done_more c.args.world.now c.loop-op.world c.reply_op.new.world c.args.labels.now c.loop-op.labels c.reply_op.new.labels c.args.ops.now c.loop-op.op-index
    c.op-item.result _ c.loop-op-test.true c.loop-op.invariant done c.history_stands-in-loop-op.ensures
