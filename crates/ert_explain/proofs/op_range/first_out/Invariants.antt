use Rattle.std.proofs.Common.{◌≡◌, drop, map}
use Rattle.serde_json.specs.View.{view}
use Rattle.ert_explain.specs.OpRanges.{out_from}
use Rattle.ert_explain.proofs.op_range.first_out.Given as goal

abbrev pub invariant-loop-i : goal.invariant-loop-i
invariant-loop-i l = out_from l.signature l.counts 0 (map view l.args) ≡ out_from l.signature l.counts l.i (map view (drop l.i l.args))
