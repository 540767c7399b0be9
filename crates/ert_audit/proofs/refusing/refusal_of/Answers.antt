use Rattle.std.proofs.Common.{sym, ◌∙◌}
use Rattle.ert_audit.proofs.Messages.{some_end}
use Rattle.ert_audit.proofs.refusing.refusal_of.Goals as goal

pub returns-in-None-clause-why : goal.returns-in-None-clause-why
returns-in-None-clause-why c = (
  rw (c.line_after-line.ensures, c.saturating_sub-lines.ensures) at (sym c.fault_in.ensures.fault ∙ c.in_default.is),
  some_end _ (rw c.saturating_sub-lines.ensures at c.if-not-has_end.ensures),
  rw (c.line_after-line.ensures, c.saturating_sub-lines.ensures) at c.in-None.ensures.none,
)
