-- The draws of passes that are put together, one after the other.

use Rattle.std.proofs.Common.{◌≡◌, ℕ, zero, suc, ◌+◌, arith, List, [], ◌∷◌, ◌++◌, length, length-append, slice_index, refl, sym, ap, ◌∙◌, add-one}
use mathlib.Core.Option.{some, some-injective, some-ne-none}
use lib.ListN.{get_elem?}
use Rattle.ert_unique.specs.{Numbers.{occurrences, IsOneTo, IsRearranged}, Passes.{draws_of, draws_together, below}, declared.uniques.UniquePass.UniquePass}
use Rattle.ert_unique.proofs.Totals.{Adds, times_adds, length_adds}

together_last : (m : List ℕ → ℕ) → Adds m → (passes : List UniquePass) (p : UniquePass)
    → m (draws_together (passes ++ p ∷ [])) ≡ m (draws_together passes) + m (draws_of p)
together_last m adds [] p = omega (arith, adds.parts (draws_of p) [])
together_last m adds (q ∷ passes) p =
    omega (arith, adds.parts (draws_of q) (draws_together (passes ++ p ∷ [])), adds.parts (draws_of q) (draws_together passes), together_last m adds passes p)

-- a list that each measure finds the same as one that is rearranged
rearranged : (xs ys zs : List ℕ) → IsRearranged xs ys → ((m : List ℕ → ℕ) → Adds m → m zs ≡ m ys) → IsRearranged xs zs
rearranged xs ys zs is same = record {
  count = same (λ l. length l) length_adds ∙ is.count;
  as_often = λ x. same (occurrences x) (times_adds x) ∙ is.as_often x;
}

-- the last pass is taken off, and its draws go behind those that are together
pub gathers_one : (all xs : List ℕ) (passes rest : List UniquePass) (p : UniquePass) → passes ≡ rest ++ p ∷ []
    → IsRearranged all (draws_together passes ++ xs) → IsRearranged all (draws_together rest ++ (xs ++ draws_of p))
gathers_one all xs passes rest p is so =
    rearranged all (draws_together passes ++ xs) (draws_together rest ++ (xs ++ draws_of p)) so
    (λ m adds. omega (
      arith,
      adds.parts (draws_together passes) xs,
      adds.parts (draws_together rest) (xs ++ draws_of p),
      adds.parts xs (draws_of p),
      ap (λ (l : List UniquePass). m (draws_together l)) is,
      together_last m adds rest p,
    ))

-- the first that is taken off
pub gathers_first : (passes rest : List UniquePass) (p : UniquePass) → passes ≡ rest ++ p ∷ []
    → IsRearranged (draws_together passes) (draws_together rest ++ draws_of p)
gathers_first passes rest p is =
    gathers_one (draws_together passes) [] passes rest p is
    (rearranged (draws_together passes) (draws_together passes) (draws_together passes ++ []) (record { count = refl; as_often = λ x. refl })
    (λ m adds. omega (arith, adds.none, adds.parts (draws_together passes) [])))

-- a list that is the numbers from 1 to n is so in another order
pub one_to_rearranged : (n : ℕ) (xs ys : List ℕ) → IsRearranged xs ys → IsOneTo n ys → IsOneTo n xs
one_to_rearranged n xs ys is one = record {
  count = omega (arith, is.count, one.count);
  once = λ x. omega (arith, is.as_often x, one.once x);
}

pub length_below : (n : ℕ) → length (below n) ≡ n
length_below zero = refl
length_below (suc n) = omega (arith, length-append (below n) (n ∷ []), length_below n)

pub below_more : (n : ℕ) → below n ++ n ∷ [] ≡ below (n + 1)
below_more n = sym (ap below (add-one n))

-- an element that stands in a list is read there
pub first_at : (words : List ℕ) (n : ℕ) → get_elem? words 0 ≡ some n → slice_index words 0 ≡ n
first_at [] n h = absurd (some-ne-none n (sym h))
first_at (x ∷ words) n h = some-injective x n h
