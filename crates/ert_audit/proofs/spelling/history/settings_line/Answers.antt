use Rattle.std.proofs.Common.{sym, ◌∙◌}
use Rattle.std.proofs.lemmas.Bool.{false≢true}
use Rattle.ert_audit.proofs.FirstLines.{settings_line_read, settings_line_none, settings_line_free, settings_line_refused}
use Rattle.ert_audit.proofs.spelling.history.settings_line.Goals as goal

pub returns-in_err-line-clause-none : goal.returns-in_err-line-clause-none
returns-in_err-line-clause-none c = rw c.from_residual.ensures (settings_line_free c.args.bytes.now c.in_err-line.ensures.none)

pub returns-in_err-settings-clause-none : goal.returns-in_err-settings-clause-none
returns-in_err-settings-clause-none c =
    rw c.from_residual-in_err-settings.ensures
    (settings_line_none c.args.bytes.now c.in_ok-line.line.now c.in_ok-line.rest.now c.in_ok-line.ensures.some (sym c.settings_of.ensures ∙ c.in_err-settings.was))

pub returns-then-not-is_checked-clause-none : goal.returns-then-not-is_checked-clause-none
returns-then-not-is_checked-clause-none c =
    settings_line_refused c.args.bytes.now c.in_ok-line.line.now c.in_ok-line.rest.now c.in_ok-settings.settings c.in_ok-line.ensures.some
    (sym c.settings_of.ensures ∙ c.in_ok-settings.was) (λ checked. false≢true (sym c.if-not-is_checked.true ∙ c.is_checked.ensures.1 checked))

pub returns-clause-some : goal.returns-clause-some
returns-clause-some c =
    settings_line_read c.args.bytes.now c.in_ok-line.line.now c.in_ok-line.rest.now c.in_ok-settings.settings c.in_ok-line.ensures.some
    (sym c.settings_of.ensures ∙ c.in_ok-settings.was) (c.is_checked.ensures.0 c.if-not-is_checked.false)
