use Rattle.std.proofs.Common.{length}
use Rattle.ert_scenario.proofs.QuickLemmas.{OpsSoFar}
use Rattle.ert_scenario.proofs.quick.ops.read_ops.Given as goal

abbrev pub invariant-ops : goal.invariant-ops
invariant-ops l = OpsSoFar l.format l.initial.reader l.reader l.ops.items

abbrev pub decreases-ops : goal.decreases-ops
decreases-ops l = length l.reader
