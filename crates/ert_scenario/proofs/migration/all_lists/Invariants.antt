use Rattle.std.proofs.Common.{◌≡◌, take, map}
use Rattle.serde_json.specs.View.{view}
use Rattle.ert_scenario.specs.Migration.{migrated_list}
use Rattle.ert_scenario.proofs.migration.all_lists.Given as goal

abbrev pub invariant-loop-list : goal.invariant-loop-list
invariant-loop-list l = map view l.migrated.items ≡ map migrated_list (map view (take l.list-index l.lists))
