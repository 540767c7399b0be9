use Rattle.std.proofs.Common.{sym, ◌∙◌}
use Rattle.ert_audit.proofs.FirstLines.{entry_line_read, entry_line_none}
use Rattle.ert_audit.proofs.spelling.history.entry_line.Goals as goal

pub returns-in_err-entry-clause-none : goal.returns-in_err-entry-clause-none
returns-in_err-entry-clause-none c =
    rw c.from_residual-in_err-entry.ensures
    (entry_line_none c.args.lines.now c.in_ok-line.line.now c.in_ok-line.rest.now c.in_ok-line.ensures.some (sym c.entry_of.ensures ∙ c.in_err-entry.was))

pub returns-clause-some : goal.returns-clause-some
returns-clause-some c =
    entry_line_read c.args.lines.now c.in_ok-line.line.now c.in_ok-line.rest.now c.in_ok-entry.entry c.in_ok-line.ensures.some (sym c.entry_of.ensures ∙ c.in_ok-entry.was)
