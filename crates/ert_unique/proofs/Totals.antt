-- Totals over all passes, and how they change with one pass.

use Rattle.std.proofs.Common.{◌≡◌, ℕ, zero, suc, ◌+◌, arith, cond, ◌==◌, List, [], ◌∷◌, ◌++◌, length, length-append, set, sum_by, refl, sym, ap, ◌∙◌}
use Rattle.std.proofs.lemmas.{Bool.Decides.nat_tests, List.Sums.{sum_by-append, sum_by-cons}}
use mathlib.Core.Option.{some, some-injective, some-ne-none}
use lib.ListN.{get_elem?}
use Rattle.ert_unique.specs.{Numbers.{occurrences, within, IsOneTo}, Rule.all_draws, declared.view.View.View}

-- a measure of lists that adds up
pub record Adds (m : List ℕ → ℕ) : Type 0 where
  pub none : m [] ≡ 0
  pub parts : (xs ys : List ℕ) → m (xs ++ ys) ≡ m xs + m ys

pub times_adds : (x : ℕ) → Adds (occurrences x)
times_adds x = record { none = refl; parts = λ xs ys. sum_by-append (λ y. cond (y == x) 1 0) xs ys }

pub length_adds : Adds (λ (xs : List ℕ). length xs)
length_adds = record { none = refl; parts = λ xs ys. length-append xs ys }

-- the total after a change of one pass
pub total_set : (f : View → ℕ) (views : List View) (id : ℕ) (v w : View) → get_elem? views id ≡ some v
    → sum_by f (set views id w) + f v ≡ sum_by f views + f w
total_set f [] id v w at = absurd (some-ne-none v (sym at))
total_set f (u ∷ views) zero v w at = omega (arith, sum_by-cons f u views, sum_by-cons f w views, ap f (some-injective u v at))
total_set f (u ∷ views) (suc id) v w at =
    omega (arith, sum_by-cons f u views, sum_by-cons f u (set views id w), total_set f views id v w at)

-- the total with one more pass
pub total_last : (f : View → ℕ) (views : List View) (w : View) → sum_by f (views ++ w ∷ []) ≡ sum_by f views + f w
total_last f views w = omega (arith, sum_by-append f views (w ∷ []), sum_by-cons f w [])

-- a measure of all draws is the total of that of each pass
pub drawn_total : (m : List ℕ → ℕ) → Adds m → (views : List View) → m (all_draws views) ≡ sum_by (λ v. m v.draws) views
drawn_total m adds [] = adds.none
drawn_total m adds (v ∷ views) =
    omega (arith, adds.parts v.draws (all_draws views), sum_by-cons (λ (u : View). m u.draws) v views, drawn_total m adds views)

-- lists that each measure finds the same
pub one_to_same : (n : ℕ) (xs ys : List ℕ) → IsOneTo n xs → ((m : List ℕ → ℕ) → Adds m → m ys ≡ m xs) → IsOneTo n ys
one_to_same n xs ys is same = record {
  count = same (λ l. length l) length_adds ∙ is.count;
  once = λ x. same (occurrences x) (times_adds x) ∙ is.once x;
}

within_more : (x n : ℕ) → within x (n + 1) ≡ within x n + occurrences x ((n + 1) ∷ [])
within_more x n = grind (arith, nat_tests)

-- a list with the next number more
pub one_to_more : (n : ℕ) (xs ys : List ℕ) → IsOneTo n xs → ((m : List ℕ → ℕ) → Adds m → m ys ≡ m xs + m ((n + 1) ∷ []))
    → IsOneTo (n + 1) ys
one_to_more n xs ys is more = record {
  count = more (λ l. length l) length_adds ∙ ap (λ k. k + 1) is.count;
  once = λ x. more (occurrences x) (times_adds x) ∙ (ap (λ k. k + occurrences x ((n + 1) ∷ [])) (is.once x) ∙ sym (within_more x n));
}
