-- What the conversion of an integer to 32 bits answers.

use Rattle.std.proofs.Common.{◌≡◌, ◌<◌, ℕ, ℤ, pos, negsuc, Bool, true, false, Ok, Err, ltb, refl, ap, ◌∙◌, arith}
use Rattle.std.proofs.lemmas.Bool.Decides.{nat_tests}
use Rattle.std.specs.Int.{FitsUnsignedBits}
use Rattle.std.specs.Prelude.{unsigned_abs}
use Rattle.ert_scenario.specs.{Kinds.{if_in_range, word_from}, declared.fault.Fault.TheVariants.Range}

within : (fits : Bool) (n : ℕ) → fits ≡ true → Ok n ≡ if_in_range fits n
unfolding if_in_range
within true n h = refl
within false n h = absurd (cc)

beyond : (fits : Bool) (n : ℕ) → fits ≡ false → Err Range ≡ if_in_range fits n
unfolding if_in_range
beyond true n h = absurd (cc)
beyond false n h = refl

-- a conversion that fits gives the number
pub word_fits : (z : ℤ) (n : ℕ) → FitsUnsignedBits 32 z × (n ≡ unsigned_abs z) → Ok n ≡ word_from z
word_fits (pos m) n h =
    let low : m < 4294967296 = h.0 in
    let is : ltb m 4294967296 ≡ true = grind (arith, nat_tests) in
    ap Ok h.1 ∙ within _ m is
word_fits (negsuc m) n h = absurd h.0

-- and others don't fit
pub word_misses : (z : ℤ) → (FitsUnsignedBits 32 z → ⊥) → Err Range ≡ word_from z
word_misses (pos m) h =
    let high : m < 4294967296 → ⊥ = h in
    let is : ltb m 4294967296 ≡ false = grind (arith, nat_tests) in
    beyond _ m is
word_misses (negsuc m) h = refl
