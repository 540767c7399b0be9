-- Messages that are written into places, one after the other.

use Rattle.std.proofs.Common.{◌≡◌, ◌<◌, List, [], ◌∷◌, ◌++◌, map, drop, length, refl, ap, arith}
use Rattle.std.specs.Prelude.{slice_set}

-- one more is written
pub placed_more : {A B : Type 0} (f : A → B) (took : List A) (one : A) (kept : List B) → length took < length kept
    → slice_set (map f took ++ drop (length took) kept) (length took) (f one) ≡ map f (took ++ one ∷ []) ++ drop (length (took ++ one ∷ [])) kept
placed_more f [] one [] low = absurd (omega (arith, low))
placed_more f [] one (k ∷ kept) low = refl
placed_more f (t ∷ took) one [] low = absurd (omega (arith, low))
placed_more f (t ∷ took) one (k ∷ kept) low = ap (λ l. f t ∷ l) (placed_more f took one kept (let less : length took < length kept = omega (arith, low) in less))
