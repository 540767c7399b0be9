-- The rule holds at the opening, and the passes' numbers differ.

use Rattle.std.proofs.Common.{◌≡◌, ℕ, zero, suc, ◌≤◌, cond, nat_lt, arith, inl, [], ◌∷◌, refl, sym, subst}
use Rattle.std.proofs.lemmas.{Bool.Decides.nat_tests, List.Elements.All-nil}
use mathlib.Core.Option.{some, some-injective, some-ne-none}
use lib.ListN.{get_elem?}
use Rattle.ert_unique.specs.{Numbers.{occurrences, within, AllDiffer}, Passes.below, Rule.{DrawsFit, AreUniqueDraws}, Views.first_share, declared.view.View.View}
use Rattle.ert_unique.proofs.Totals.{times_adds}

first_fits : (passes : ℕ) → DrawsFit passes 0 (first_share passes)
first_fits passes = record { short = omega arith; seen = omega arith; greatest = All-nil (λ n. n ≤ 0); opened = inl refl }

one_view : (x : View) (k : ℕ) (v : View) → get_elem? (x ∷ []) k ≡ some v → x ≡ v
one_view x zero v is = some-injective x v is
one_view x (suc k) v is = absurd (some-ne-none v (sym is))

none_drawn : (x : ℕ) → 0 ≡ within x 0
none_drawn x = grind (arith, nat_tests)

pub opens : (passes : ℕ) → AreUniqueDraws passes (0 ∷ []) (first_share passes ∷ [])
opens passes = record {
  word = 0;
  alone = refl;
  numbers = record { count = refl; once = none_drawn };
  shares = omega arith;
  fits = λ k v at. subst (DrawsFit passes 0) (one_view (first_share passes) k v at) (first_fits passes);
}

-- a number stands below another once or not at all
times_below : (x n : ℕ) → occurrences x (below n) ≡ cond (nat_lt x n) 1 0
times_below x zero = grind (arith, nat_tests)
times_below x (suc n) = grind (arith, nat_tests, (times_adds x).parts (below n) (n ∷ []), times_below x n)

pub below_differ : (n : ℕ) → AllDiffer (below n)
below_differ n x = grind (arith, nat_tests, times_below x n)
