use Rattle.std.proofs.Common.{◌≡◌, drop, map}
use Rattle.serde_json.specs.View.{view}
use Rattle.ert_explain.specs.OpShapes.{wrong_from}
use Rattle.ert_explain.proofs.op_shape.first_wrong.Given as goal

abbrev pub invariant-loop-i : goal.invariant-loop-i
invariant-loop-i l = wrong_from l.signature 0 (map view l.args) ≡ wrong_from l.signature l.i (map view (drop l.i l.args))
