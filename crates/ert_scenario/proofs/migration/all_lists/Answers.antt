use Rattle.std.proofs.Common.{◌≡◌, ℕ, ◌+◌, ◌<◌, List, [], ◌∷◌, ◌++◌, length, get_or, take, map, arith}
use Rattle.std.proofs.lemmas.Grind.{common_steps}
use Rattle.serde_json.specs.{Data.Data, View.view, declared.value.Value.Value}
use Rattle.ert_scenario.specs.Migration.{migrated_list}
use Rattle.ert_scenario.proofs.migration.all_lists.Goals as goal

-- one more item is changed
one_more : (f : Data → Data) (xs ys zs : List Value) (i : ℕ) (x y : Value) → i < length xs → x ≡ get_or xs i x
    → map view ys ≡ map f (map view (take i xs)) → view y ≡ f (view x) → zs ≡ ys ++ y ∷ [] → map view zs ≡ map f (map view (take (i + 1) xs))
one_more f xs ys zs i x y below at before here new = grind (arith, common_steps)

pub loop-list-preserved : goal.loop-list-preserved
loop-list-preserved c =
    one_more migrated_list c.args.lists.now c.loop-list.migrated.items _ c.loop-list.list-index c.list-item.result c.in_ok-migrated_list.field-0
    c.loop-list-test.true c.list-item.is c.loop-list.invariant c.in_ok-migrated_list.ensures c.in_ok-push.ensures.items
