use Rattle.ert_audit.proofs.Messages.{line_more, no_line}
use Rattle.ert_audit.proofs.lines.lines_on.Goals as goal

pub loop-passed-init : goal.loop-passed-init
loop-passed-init c = no_line c.args.text.now

pub loop-passed-preserved : goal.loop-passed-preserved
loop-passed-preserved c = line_more c.args.text.now _ _ _ c.loop-passed.invariant c.after_line-rest.ensures
