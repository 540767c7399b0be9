use Rattle.std.proofs.Common.{map, ap, ◌∙◌}
use Rattle.serde_json.specs.View.{view}
use Rattle.ert_scenario.specs.Migration.{migrated_op}
use Rattle.ert_scenario.proofs.Migrated.{each_of_array}
use Rattle.ert_scenario.proofs.migration.migrated_list.Goals as goal

pub returns-in_ok-migrated_ops-in-Array : goal.returns-in_ok-migrated_ops-in-Array
returns-in_ok-migrated_ops-in-Array c =
    each_of_array migrated_op (view c.args.value.now) c.in-Array.ops c.in_ok-migrated_ops-in-Array.field-0 (ap view c.in-Array.is)
    (c.in_ok-migrated_ops-in-Array.ensures ∙ ap (λ vs. map migrated_op (map view vs)) c.deref.ensures.value)
