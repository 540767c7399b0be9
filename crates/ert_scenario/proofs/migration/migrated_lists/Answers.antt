use Rattle.std.proofs.Common.{map, ap, ◌∙◌}
use Rattle.serde_json.specs.View.{view}
use Rattle.ert_scenario.specs.Migration.{migrated_list}
use Rattle.ert_scenario.proofs.Migrated.{each_of_array}
use Rattle.ert_scenario.proofs.migration.migrated_lists.Goals as goal

pub returns-in_ok-all_lists-in-Array : goal.returns-in_ok-all_lists-in-Array
returns-in_ok-all_lists-in-Array c =
    each_of_array migrated_list (view c.args.value.now) c.in-Array.lists c.in_ok-all_lists-in-Array.field-0 (ap view c.in-Array.is)
    (c.in_ok-all_lists-in-Array.ensures ∙ ap (λ vs. map migrated_list (map view vs)) c.deref.ensures.value)
