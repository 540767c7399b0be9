-- The members of an object of the crate.

use Rattle.std.proofs.Common.{◌≡◌, ℕ, List, [], ◌∷◌, Bool, ◌&&◌, String, Global, string_bytes, refl, ap}
use Rattle.std.specs.{List.list_all, Map.keys_of}
use Rattle.serde_json.specs.{View.members_view, declared.value.Value.Value}
use Rattle.ert_scenario.specs.Fields.{are_named}

pub are_named_view : (is : List ℕ → Bool) (es : List (String Global × Value)) → are_named is (members_view es) ≡ list_all (λ name. is (string_bytes name)) (keys_of es)
unfolding are_named
are_named_view is [] = refl
are_named_view is (e ∷ es) = ap (λ rest. is (string_bytes e.0) && rest) (are_named_view is es)
