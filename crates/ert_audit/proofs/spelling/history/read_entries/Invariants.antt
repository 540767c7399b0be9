use Rattle.std.proofs.Common.{length}
use Rattle.ert_audit.specs.Spelling.{AreEntryLines}
use Rattle.ert_audit.proofs.spelling.history.read_entries.Given as goal

abbrev pub invariant-loop-rest : goal.invariant-loop-rest
invariant-loop-rest l = AreEntryLines l.lines l.entries.items l.rest

abbrev pub decreases-loop-rest : goal.decreases-loop-rest
decreases-loop-rest l = length l.rest
