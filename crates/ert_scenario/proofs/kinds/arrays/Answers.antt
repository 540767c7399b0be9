use Rattle.std.proofs.Common.{◌≡◌, map, true, false, Ok, option_map, refl, sym, ◌∙◌}
use Rattle.std.specs.List.{list_all}
use Rattle.serde_json.specs.View.{view}
use Rattle.ert_scenario.specs.Kinds.{is_array, listed, arrays}
use Rattle.ert_scenario.proofs.Listed.{all_arrays}
use Rattle.ert_scenario.proofs.kinds.arrays.Goals as goal

pub returns-then-are_arrays : goal.returns-then-are_arrays
unfolding arrays
returns-then-are_arrays c =
    let found : listed (option_map (λ v. view v.now) c.args.value) ≡ Ok (map view c.in_ok-lists.lists.now) = sym c.in_ok-lists.ensures in
    let all : list_all is_array (map view c.in_ok-lists.lists.now) ≡ true = sym (all_arrays c.in_ok-lists.lists.now) ∙ sym c.are_arrays.ensures ∙ c.if-are_arrays.true in
    rw (found, all) refl

pub returns-else-are_arrays : goal.returns-else-are_arrays
unfolding arrays
returns-else-are_arrays c =
    let found : listed (option_map (λ v. view v.now) c.args.value) ≡ Ok (map view c.in_ok-lists.lists.now) = sym c.in_ok-lists.ensures in
    let all : list_all is_array (map view c.in_ok-lists.lists.now) ≡ false = sym (all_arrays c.in_ok-lists.lists.now) ∙ sym c.are_arrays.ensures ∙ c.if-are_arrays.false in
    rw (found, all) refl
