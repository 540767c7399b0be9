use Rattle.std.proofs.Common.{◌≡◌, ◌++◌, ◌-◌}
use Rattle.ert_program.specs.Steps.{next_ops, first}
use Rattle.ert_program.proofs.Within.{IsWithin}
use Rattle.ert_program.proofs.generation.ops_of.Given as goal

abbrev pub invariant-ops : goal.invariant-ops
invariant-ops l = record {
  whole : l.ops.items ++ next_ops (l.n - l.made) l.generator ≡ next_ops l.n (first l.seed);
  within : IsWithin l.made l.generator;
}
