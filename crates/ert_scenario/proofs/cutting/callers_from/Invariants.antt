use Rattle.std.proofs.Common.{◌≡◌, ◌++◌, map, drop}
use Rattle.serde_json.specs.View.{view}
use Rattle.ert_scenario.specs.Cuts.{cut_callers}
use Rattle.ert_scenario.proofs.cutting.callers_from.Given as goal

abbrev pub invariant-loop-list : goal.invariant-loop-list
invariant-loop-list l =
    map (λ list. list.items) l.callers.items ++ cut_callers (map view (drop l.list-index l.lists)) l.rest ≡ cut_callers (map view l.lists) l.fn.ops
