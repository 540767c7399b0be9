-- The items of an array of the crate, as a list.

use Rattle.std.proofs.Common.{◌≡◌, List, [], ◌∷◌, map, ◌&&◌, is_some, refl, ap}
use Rattle.std.specs.List.{list_all}
use Rattle.serde_json.specs.{Data.Data, Find.as_array, View.{view, items_of}, declared.value.Value.Value}
use Rattle.ert_scenario.specs.Kinds.{list_of, is_array}

pub list_of_items : (ds : List Data) → list_of (items_of ds) ≡ ds
unfolding list_of
list_of_items [] = refl
list_of_items (d ∷ ds) = ap (λ rest. d ∷ rest) (list_of_items ds)

-- the arrays among values are those of what they stand for
pub all_arrays : (vs : List Value) → list_all (λ v. is_some (as_array (view v))) vs ≡ list_all is_array (map view vs)
all_arrays [] = refl
all_arrays (v ∷ vs) = ap (λ rest. is_array (view v) && rest) (all_arrays vs)
