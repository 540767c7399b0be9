use Rattle.std.proofs.Common.{◌≡◌, sym, ap, ◌∙◌}
use Rattle.serde_json.specs.{View.view, declared.value.Value.Array}
use Rattle.ert_scenario.proofs.Migrated.{array_migrated}
use Rattle.ert_scenario.proofs.migration.migrated_op.Goals as goal

pub returns-in_ok-migrated_items-in-Array : goal.returns-in_ok-migrated_items-in-Array
returns-in_ok-migrated_items-in-Array c =
    let copied = c.in_ok-other.ensures.cases in
    let is : view c.args.op.now ≡ view (Array c.in-Array.items) = sym copied ∙ ap view c.in-Array.is in
    array_migrated (view c.args.op.now) c.in-Array.items c.in_ok-migrated_items-in-Array.field-0 is c.in_ok-migrated_items-in-Array.ensures
