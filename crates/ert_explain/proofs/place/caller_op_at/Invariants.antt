use Rattle.std.proofs.Common.{◌≡◌, drop, map}
use Rattle.serde_json.specs.View.{view}
use Rattle.ert_explain.specs.Places.{caller_op_at}
use Rattle.ert_explain.proofs.place.caller_op_at.Given as goal

abbrev pub invariant-loop-caller : goal.invariant-loop-caller
invariant-loop-caller l = caller_op_at 0 (map view l.lists) l.number ≡ caller_op_at l.caller (map view (drop l.caller l.lists)) l.rest
