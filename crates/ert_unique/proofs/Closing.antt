-- A pass with all shares has all draws.

use Rattle.std.proofs.Common.{◌≡◌, ℕ, zero, suc, ◌≤◌, arith, List, [], ◌∷◌, ◌++◌, length, sum_by, slice_index, refl, sym, ap, subst, ◌∙◌, append-nil}
use Rattle.std.proofs.lemmas.List.Sums.{sum_by-cons}
use mathlib.Core.Option.{some, some-injective, some-ne-none}
use lib.ListN.{get_elem?}
use Rattle.atomic_table.specs.Table.{Final, Seen}
use Rattle.ert_unique.specs.{Numbers.IsOneTo, Rule.{all_draws, AreUniqueDraws}, declared.view.View.View}
use Rattle.ert_unique.proofs.Passing.{Ruled, AllFit, fits_rest}

-- a list no longer than 0 is empty
empty : (xs : List ℕ) → length xs ≤ 0 → xs ≡ []
empty [] le = refl
empty (x ∷ xs) le = absurd (omega arith)

-- passes without shares drew nothing
none_drawn : (passes word : ℕ) (views : List View) → AllFit passes word views → sum_by (λ v. v.share) views ≡ 0 → all_draws views ≡ []
none_drawn passes word [] fits none = refl
none_drawn passes word (v ∷ views) fits none =
    let sum = sum_by-cons (λ (u : View). u.share) v views in
    let first : v.draws ≡ [] = empty v.draws (omega (arith, (fits 0 v refl).short, none, sum)) in
    let others : all_draws views ≡ [] = none_drawn passes word views (fits_rest passes word v views fits) (omega (arith, none, sum)) in
    ap (λ xs. xs ++ all_draws views) first ∙ others

share_within : (views : List View) (id : ℕ) (v : View) → get_elem? views id ≡ some v → v.share ≤ sum_by (λ u. u.share) views
share_within [] id v at = absurd (some-ne-none v (sym at))
share_within (u ∷ views) zero v at = omega (arith, sum_by-cons (λ (x : View). x.share) u views, ap (λ (x : View). x.share) (some-injective u v at))
share_within (u ∷ views) (suc id) v at = omega (arith, sum_by-cons (λ (x : View). x.share) u views, share_within views id v at)

-- all draws are those of a pass that has all shares
all_drawn : (passes word : ℕ) (views : List View) (id : ℕ) (v : View) → AllFit passes word views → get_elem? views id ≡ some v
    → sum_by (λ u. u.share) views ≡ v.share → all_draws views ≡ v.draws
all_drawn passes word [] id v fits at whole = absurd (some-ne-none v (sym at))
all_drawn passes word (u ∷ views) zero v fits at whole =
    let sum = sum_by-cons (λ (x : View). x.share) u views in
    let same : u ≡ v = some-injective u v at in
    let others : all_draws views ≡ [] = none_drawn passes word views (fits_rest passes word u views fits)
    (omega (arith, sum, whole, ap (λ (x : View). x.share) same)) in
    ap (λ xs. u.draws ++ xs) others ∙ (append-nil u.draws ∙ ap (λ (x : View). x.draws) same)
all_drawn passes word (u ∷ views) (suc id) v fits at whole =
    let sum = sum_by-cons (λ (x : View). x.share) u views in
    let le = share_within views id v at in
    let first : u.draws ≡ [] = empty u.draws (omega (arith, (fits 0 u refl).short, sum, whole, le)) in
    ap (λ xs. xs ++ all_draws views) first
    ∙ all_drawn passes word views id v (fits_rest passes word u views fits) at (omega (arith, sum, whole, le))

-- the word at closing is the number of the draws of a pass that has all shares
pub closes : (passes id : ℕ) (v : View) (words : List ℕ) (slots : List (Unit {0})) → Final (Seen (Ruled passes) id v) words slots
    → v.share ≡ passes → IsOneTo (slice_index words 0) v.draws
closes passes id v words slots end whole =
    let s = end.0 in
    let kept : AreUniqueDraws passes s.words s.views = end.1.0 in
    let all : all_draws s.views ≡ v.draws = all_drawn passes kept.word s.views id v kept.fits end.1.1 (kept.shares ∙ sym whole) in
    let word : kept.word ≡ slice_index words 0 = ap (λ ws. slice_index ws 0) (sym kept.alone ∙ end.2) in
    subst (λ n. IsOneTo n v.draws) word (subst (IsOneTo kept.word) all kept.numbers)
