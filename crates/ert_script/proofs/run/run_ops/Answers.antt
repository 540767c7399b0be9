use Rattle.std.proofs.Common.{arith, sym, subst}
use Rattle.std.proofs.lemmas.Result.{err_from_is_err_and}
use Rattle.ert_io.specs.Told.{SinkTold, sink_told}
use Rattle.ert_script.specs.{declared.output.RunErr.RunErr, Scripts.{DoesWith, Fails}, Written.WritesSome}
use Rattle.ert_ops.specs.{Ranges.IsOpInRange, declared.op.Op.Op}
use Rattle.ert_script.proofs.{Texts.ok_map, Runs.{so_far_first, op_may, goes_on_at, fails_at, breaks_at, ends, breaks_last, err_map, line_fits, page_fits}}
use Rattle.ert_script.proofs.run.run_ops.Goals as goal

pub loop-op-init : goal.loop-op-init
loop-op-init g c = record {
  so_far = rw c.new-page.ensures.bytes
      (so_far_first c.args.world.now c.args.labels.now (g.K.Sink.taken c.args.sink.now) (g.K.Sink.room c.args.sink.now) c.history_stands.ensures);
  later = omega arith;
}

pub reply_op-requires-clause-range : goal.reply_op-requires-clause-range
reply_op-requires-clause-range g c =
    subst (λ (op : Op). IsOpInRange c.loop-op.world.settings op) (sym c.op-item.is)
    (op_may c.args.world.now.settings c.loop-op.world c.args.ops.now c.loop-op.op-index c.op-item.result c.loop-op-test.true
    c.loop-op.invariant.so_far.runs.settings c.requires.ranges)

pub returns-in_default-clause-err : goal.returns-in_default-clause-err
returns-in_default-clause-err g c =
    rw c.in_default.ensures.labels
    (fails_at c.args.world.now c.loop-op.world c.reply_op.new.world c.args.labels.now c.loop-op.labels c.args.ops.now c.loop-op.op-index c.op-item.result _ _ _
    c.loop-op-test.true c.loop-op.invariant.so_far
    (subst (λ (op : Op). Fails c.loop-op.world c.loop-op.labels op c.reply_op.new.world) c.op-item.is c.in_default.ensures.err))

pub returns-in_err-put-clause-err : goal.returns-in_err-put-clause-err
returns-in_err-put-clause-err g c =
    let p = err_from_is_err_and c.from_residual.result c.from_residual.ensures.1 in
    rw p.1
    (breaks_at c.args.world.now c.loop-op.world c.reply_op.new.world c.args.labels.now c.loop-op.labels c.reply_op.new.labels c.args.ops.now c.loop-op.op-index
    c.op-item.result _ _ _ _ c.in-Ok.reply _ c.loop-op-test.true c.loop-op.invariant.so_far
    (subst (λ (op : Op). DoesWith c.loop-op.world c.loop-op.labels op c.in-Ok.reply c.reply_op.new.world c.reply_op.new.labels) c.op-item.is c.in-Ok.ensures.ok)
    c.history_stands-in-loop-op.ensures c.in_err-put.ensures.err)

pub loop-op-preserved : goal.loop-op-preserved
loop-op-preserved g c =
    let done = subst (λ (op : Op). DoesWith c.loop-op.world c.loop-op.labels op c.in-Ok.reply c.reply_op.new.world c.reply_op.new.labels) c.op-item.is
    c.in-Ok.ensures.ok in
    record {
      so_far =
          goes_on_at c.args.world.now c.loop-op.world c.reply_op.new.world c.args.labels.now c.loop-op.labels c.reply_op.new.labels c.args.ops.now
          c.loop-op.op-index c.op-item.result _ _ _ _ _ c.in-Ok.reply c.loop-op-test.true c.loop-op.invariant.so_far done c.history_stands-in-loop-op.ensures
          c.in_ok-put.ensures.ok;
      later = omega (arith, c.loop-op.invariant.later, c.put.ensures.later);
    }

pub returns-clause-ok : goal.returns-clause-ok
returns-clause-ok g c =
    ok_map c.write_page.result
    (ends c.args.world.now c.loop-op.world c.args.labels.now c.loop-op.labels c.args.ops.now c.loop-op.op-index _ _ _ _ c.loop-op-test.false
    c.loop-op.invariant.so_far)
    c.write_page.ensures.ok

pub returns-clause-err : goal.returns-clause-err
returns-clause-err g c =
    let old : SinkTold = sink_told (g.K.Sink.taken c.args.sink.now) (g.K.Sink.room c.args.sink.now) in
    let new : SinkTold = sink_told (g.K.Sink.taken c.write_page.new.output) (g.K.Sink.room c.write_page.new.output) in
    err_map (λ (why : RunErr). WritesSome c.args.world.now c.args.labels.now c.args.ops.now c.loop-op.world c.loop-op.labels why old new) c.write_page.result
    (λ why. breaks_last c.args.world.now c.loop-op.world c.args.labels.now c.loop-op.labels c.args.ops.now c.loop-op.op-index _ _ _ _ why
    c.loop-op.invariant.so_far)
    c.write_page.ensures.err

pub put-requires : goal.put-requires
put-requires g c =
    line_fits c.args.world.now c.loop-op.world c.reply_op.new.world c.args.labels.now c.loop-op.labels c.reply_op.new.labels c.args.ops.now c.loop-op.op-index
    c.op-item.result _ _ _ c.in-Ok.reply c.loop-op-test.true c.requires.fits c.loop-op.invariant.so_far
    (subst (λ (op : Op). DoesWith c.loop-op.world c.loop-op.labels op c.in-Ok.reply c.reply_op.new.world c.reply_op.new.labels) c.op-item.is c.in-Ok.ensures.ok)
    c.history_stands-in-loop-op.ensures

pub write_page-requires : goal.write_page-requires
write_page-requires g c =
    page_fits c.args.world.now c.loop-op.world c.args.labels.now c.loop-op.labels c.args.ops.now c.loop-op.op-index _ _ _ c.requires.fits
    c.loop-op.invariant.so_far
