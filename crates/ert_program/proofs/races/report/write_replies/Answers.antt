use Rattle.ert_program.proofs.Reported.{lines_more}
use Rattle.ert_program.proofs.races.report.write_replies.Goals as goal

pub loop-reply-preserved : goal.loop-reply-preserved
loop-reply-preserved c =
    lines_more _ _ _ c.args.labels.now c.args.replies.now c.loop-reply.reply-index _ c.loop-reply-test.true c.loop-reply.invariant c.in_ok-write_line.ensures
