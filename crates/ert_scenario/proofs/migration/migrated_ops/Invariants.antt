use Rattle.std.proofs.Common.{◌≡◌, take, map}
use Rattle.serde_json.specs.View.{view}
use Rattle.ert_scenario.specs.Migration.{migrated_op}
use Rattle.ert_scenario.proofs.migration.migrated_ops.Given as goal

abbrev pub invariant-loop-op : goal.invariant-loop-op
invariant-loop-op l = map view l.migrated.items ≡ map migrated_op (map view (take l.op-index l.ops))
