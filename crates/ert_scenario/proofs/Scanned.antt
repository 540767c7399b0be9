-- The ops of a list one after another.

use Rattle.std.proofs.Common.{◌≡◌, ◌+◌, ◌<◌, ◌≤◌, ℕ, suc, List, [], ◌∷◌, ◌++◌, map, length, drop, get_or, Some, None, ap, sym, ◌∙◌, add-one}
use Rattle.std.proofs.{lemmas.List.append-nil, Math.Seq.drop-cons, Math.ListN.drop_of_length-le}
use Rattle.serde_json.specs.{Data.Data, View.view, declared.value.Value.Value}
use Rattle.ert_ops.specs.declared.op.Op.{Op}
use Rattle.ert_scenario.specs.{Kinds.{FoundOrFault, items_in}, Rows.op_of, Walked.{without_fault, WalkIsAt, IsOver}, Walks.{raws_of, caller_raws, first_shape}, declared.walk.Walk.Walk, declared.doer.ListDoer.ListDoer}
use Rattle.ert_scenario.specs.{declared.doer.ListDoer.TheVariants.Caller, declared.format.Format.Format}

next_value : (items : List Value) (i : ℕ) (x : Value) → i < length items → x ≡ get_or items i x → drop i items ≡ x ∷ drop (i + 1) items
next_value items i x low is = rw (add-one, drop-cons items i x low) (ap (λ v. v ∷ drop (suc i) items) (sym is))

-- the next op of a list
pub next_raw : (format : Format) (doer : ListDoer) (items : List Value) (i : ℕ) (x : Value) (found : FoundOrFault Op) (rest : List (FoundOrFault Op)) → i < length items → x ≡ get_or items i x
    → found ≡ op_of format doer (view x)
    → raws_of format doer (map view (drop i items)) ++ rest ≡ found ∷ (raws_of format doer (map view (drop (i + 1) items)) ++ rest)
next_raw format doer items i x found rest low is made =
    ap (λ (vs : List Value). raws_of format doer (map view vs) ++ rest) (next_value items i x low is)
    ∙ ap (λ (f : FoundOrFault Op). f ∷ (raws_of format doer (map view (drop (i + 1) items)) ++ rest)) (sym made)

-- the end of a list
pub last_raw : (format : Format) (doer : ListDoer) (items : List Value) (i : ℕ) (rest : List (FoundOrFault Op)) → length items ≤ i → raws_of format doer (map view (drop i items)) ++ rest ≡ rest
last_raw format doer items i rest high = ap (λ (vs : List Value). raws_of format doer (map view vs) ++ rest) (drop_of_length-le items high)

-- the next list of callers
pub next_list : (format : Format) (lists : List Value) (i : ℕ) (x : Value) (ours : List Value) → i < length lists → x ≡ get_or lists i x → map view ours ≡ items_in (view x)
    → caller_raws format (map view (drop i lists)) ≡ raws_of format Caller (map view ours) ++ caller_raws format (map view (drop (i + 1) lists))
next_list format lists i x ours low is made =
    ap (λ (vs : List Value). caller_raws format (map view vs)) (next_value lists i x low is)
    ∙ ap (λ (ds : List Data). raws_of format Caller ds ++ caller_raws format (map view (drop (i + 1) lists))) (sym made)

-- the end of them
pub last_list : (format : Format) (lists : List Value) (i : ℕ) → length lists ≤ i → caller_raws format (map view (drop i lists)) ≡ []
last_list format lists i high = ap (λ (vs : List Value). caller_raws format (map view vs)) (drop_of_length-le lists high)

-- the walk at its beginning
pub stands_first : (walk : Walk) (all : List (FoundOrFault Op)) → walk.ops.items ≡ [] → walk.range ≡ None → walk.place ≡ 1 → WalkIsAt walk all all
stands_first walk all ops range place = record {
  shape = ap (λ k. first_shape k all) (sym place);
  faulty = λ at e. let other : None ≡ Some at = sym range ∙ e in absurd (cc);
  faultless = λ e. (ap (λ (xs : List Op). without_fault xs ++ all) (sym ops), place ∙ ap (λ (xs : List Op). 1 + length xs) (sym ops));
}

-- and at its end
pub over_at_end : (walk : Walk) (all : List (FoundOrFault Op)) → WalkIsAt walk [] all → IsOver walk.ops.items walk.range all
over_at_end walk all stands = record {
  shape = stands.shape;
  faulty = stands.faulty;
  faultless = λ e. (stands.faultless e).0 ∙ append-nil (without_fault walk.ops.items);
}
