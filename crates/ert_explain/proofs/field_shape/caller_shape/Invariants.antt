use Rattle.std.proofs.Common.{◌≡◌, drop, map}
use Rattle.serde_json.specs.View.{view}
use Rattle.ert_explain.specs.FieldShapes.{caller_from}
use Rattle.ert_explain.proofs.field_shape.caller_shape.Given as goal

abbrev pub invariant-loop-caller : goal.invariant-loop-caller
invariant-loop-caller l = caller_from 0 (map view l.lists) ≡ caller_from l.caller (map view (drop l.caller l.lists))
