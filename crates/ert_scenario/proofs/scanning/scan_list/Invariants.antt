use Rattle.std.proofs.Common.{◌++◌, List, map, drop}
use Rattle.serde_json.specs.View.{view}
use Rattle.ert_ops.specs.declared.op.Op.{Op}
use Rattle.ert_scenario.specs.{Kinds.FoundOrFault, Walked.WalkIsAt, Walks.raws_of}
use Rattle.ert_scenario.proofs.scanning.scan_list.Given as goal

abbrev pub invariant-loop-value : goal.invariant-loop-value
invariant-loop-value l =
    (rest all : List (FoundOrFault Op)) → WalkIsAt l.initial.walk (raws_of l.format l.doer (map view l.items) ++ rest) all
    → WalkIsAt l.walk (raws_of l.format l.doer (map view (drop l.value-index l.items)) ++ rest) all
