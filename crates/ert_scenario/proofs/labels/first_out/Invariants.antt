use Rattle.std.proofs.Common.{◌≡◌, ◌+◌, drop}
use Rattle.ert_scenario.specs.Labels.{first_out}
use Rattle.ert_scenario.proofs.labels.first_out.Given as goal

abbrev pub invariant-loop-i : goal.invariant-loop-i
invariant-loop-i l = first_out l.settings l.initial.labels.taken.items 1 l.ops ≡ first_out l.settings l.labels.taken.items (l.i + 1) (drop l.i l.ops)
