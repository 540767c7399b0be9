use Rattle.std.proofs.Common.{◌≡◌}
use Rattle.ert_audit.specs.Messages.{lines_on}
use Rattle.ert_audit.proofs.lines.lines_on.Given as goal

-- so many lines have been passed
abbrev pub invariant-loop-passed : goal.invariant-loop-passed
invariant-loop-passed l = l.rest ≡ lines_on l._passed l.text
