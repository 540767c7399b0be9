use Rattle.std.proofs.Common.{Some, sym, ap, ◌∙◌}
use Rattle.serde_json.specs.View.{items_view}
use Rattle.serde_json.proofs.Views.{view-Array}
use Rattle.ert_scenario.proofs.QuickLemmas.{array_read}
use Rattle.ert_scenario.proofs.quick.tokens.read_array.Goals as goal

pub returns-then-branch-clause-read : goal.returns-then-branch-clause-read
returns-then-branch-clause-read c =
    let r = c.read_items.new.reader in
    λ depth. array_read depth c.args.reader.now r (items_view c.read_items.new.items.items) (c.in_ok-read_items.ensures.read c.if-branch.true depth)
    ∙ ap (λ d. Some (d, r)) (sym (view-Array c.read_items.new.items))
