use Rattle.std.proofs.Common.{List, Some, map, drop}
use Rattle.serde_json.specs.View.{view}
use Rattle.ert_ops.specs.declared.op.Op.{Op}
use Rattle.ert_scenario.specs.{Kinds.FoundOrFault, Lists.race_seen, Walked.WalkIsAt, Walks.{caller_raws, race_raws}}
use Rattle.ert_scenario.proofs.scanning.scan_race.Given as goal

abbrev pub invariant-loop-list : goal.invariant-loop-list
invariant-loop-list l =
    (all : List (FoundOrFault Op)) → WalkIsAt l.fn.walk (race_raws l.format (Some (race_seen l.race))) all
    → WalkIsAt l.walk (caller_raws l.format (map view (drop l.list-index l.race.callers.now))) all
