use Rattle.std.proofs.Common.{◌≡◌, ◌<◌, ℕ, Some}
use Rattle.serde_json.specs.View.{view}
use Rattle.ert_explain.specs.Labels.{label_at}
use Rattle.ert_explain.proofs.labels.earlier_start.Given as goal

abbrev pub invariant-loop-j : goal.invariant-loop-j
invariant-loop-j l = (k : ℕ) → k < l.j → label_at l.race (view l.value) k ≡ Some l.label → ⊥
