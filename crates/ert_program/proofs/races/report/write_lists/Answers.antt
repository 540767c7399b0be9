use Rattle.std.proofs.Common.{sym}
use Rattle.ert_program.proofs.Reported.{text_more}
use Rattle.ert_program.proofs.races.report.write_lists.Goals as goal

pub loop-number-preserved : goal.loop-number-preserved
loop-number-preserved c =
    text_more _ _ _ _ c.args.labels.now c.args.lists.now c.loop-number.number c.index-lists-number.result c.loop-number-test.true c.loop-number.invariant
    c.in_ok-write_heading.ensures (rw (sym c.index-lists-number.is, sym c.deref.ensures.value) c.in_ok-write_replies.ensures)
