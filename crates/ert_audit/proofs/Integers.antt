-- Numbers of 32 bits, and numbers that may be negative, as they are read and written.

use Rattle.std.proofs.Common.{◌≡◌, ℕ, zero, suc, ℤ, pos, negsuc, ◌^◌, ◌<◌, true, false, cond, ltb, eqb, List, [], ◌∷◌, drop, get_or, Some, None, refl, sym, ap, ◌∙◌, subst, inl, inr, arith}
use Rattle.std.specs.Prelude.{option_and_then}
use Rattle.std.specs.Fmt.{decimal, signed_decimal}
use Rattle.std.proofs.lemmas.{Bool.{ltb-true, lt-ltb, eqb-true}, Option.cond_some}
use Rattle.ert_audit.specs.{Fits.{Fits32, FitsInt}, Parts.Word, Readers.{natural_of, small_of, integer_of, negative_by, from_zero}}
use Rattle.ert_audit.proofs.{Digits.{natural-takes, natural-again, natural-ink, decimal_first}, Formats.{is_ink, and_then_some}, Tables.chosen}

pub small-takes : (word : Word) (n : ℕ) → small_of word ≡ Some n → (word ≡ decimal n) × Fits32 n
unfolding small_of
small-takes word n e =
    let p = and_then_some (natural_of word) (λ n. cond (ltb n 4294967296) (Some n) None) n e in
    let q = cond_some (ltb p.0 4294967296) p.0 n p.2 in
    let t = natural-takes word p.0 p.1 in
    (t.0 ∙ ap decimal q.1, rw (← q.1) (ltb-true _ _ q.0))

pub small-again : (n : ℕ) → Fits32 n → small_of (decimal n) ≡ Some n
unfolding small_of
small-again n fits =
    let wide : n < 2 ^ 64 = omega arith in
    ap (λ o. option_and_then (λ n. cond (ltb n 4294967296) (Some n) None) o) (natural-again n wide)
    ∙ rw (lt-ltb n 4294967296 fits) refl

pub small-ink : (n : ℕ) → Fits32 n → is_ink (decimal n) ≡ true
small-ink n fits = natural-ink n (omega arith)

-- the sides of 0
below-takes : (n : ℕ) (z : ℤ) → negative_by n ≡ Some z → (signed_decimal z ≡ 45 ∷ decimal n) × FitsInt z
below-takes zero z e = absurd cc
below-takes (suc n) z e =
    let p = cond_some (ltb n 9223372036854775808) (negsuc n) z e in
    let small : n < 9223372036854775808 = ltb-true _ _ p.0 in
    let there : ℤ → Type 0 = λ z. (signed_decimal z ≡ 45 ∷ decimal (suc n)) × FitsInt z in
    subst there p.1 (refl, record { sfits = small })

from-takes : (n : ℕ) (z : ℤ) → from_zero n ≡ Some z → (signed_decimal z ≡ decimal n) × FitsInt z
from-takes n z e =
    let p = cond_some (ltb n 9223372036854775808) (pos n) z e in
    let small : n < 9223372036854775808 = ltb-true _ _ p.0 in
    let there : ℤ → Type 0 = λ z. (signed_decimal z ≡ decimal n) × FitsInt z in
    subst there p.1 (refl, record { sfits = small })

first_is : (word : Word) → eqb (get_or word 0 0) 45 ≡ true → word ≡ 45 ∷ drop 1 word
first_is [] e = absurd cc
first_is (d ∷ ds) e = ap (λ (c : ℕ). c ∷ ds) (eqb-true d 45 e)

pub integer-takes : (word : Word) (z : ℤ) → integer_of word ≡ Some z → (word ≡ signed_decimal z) × FitsInt z
unfolding integer_of
integer-takes word z e =
    elim (chosen (eqb (get_or word 0 0) 45) (option_and_then negative_by (natural_of (drop 1 word))) (option_and_then from_zero (natural_of word)) (Some z) e) [
      | inl minus ↦
          let p = and_then_some (natural_of (drop 1 word)) negative_by z minus.1 in
          let t = natural-takes (drop 1 word) p.0 p.1 in
          let b = below-takes p.0 z p.2 in
          (first_is word minus.0 ∙ ap (λ (ds : List ℕ). 45 ∷ ds) t.0 ∙ sym b.0, b.1)
      | inr plain ↦
          let p = and_then_some (natural_of word) from_zero z plain.1 in
          let t = natural-takes word p.0 p.1 in
          let b = from-takes p.0 z p.2 in
          (t.0 ∙ sym b.0, b.1)
    ]

pub integer-again : (z : ℤ) → FitsInt z → integer_of (signed_decimal z) ≡ Some z
unfolding integer_of
integer-again (pos n) fits =
    let wide : n < 2 ^ 64 = omega arith in
    let first : eqb (get_or (decimal n) 0 0) 45 ≡ false = decimal_first n wide 45 (omega arith) in
    rw (first, natural-again n wide, lt-ltb n 9223372036854775808 fits.sfits) refl
integer-again (negsuc n) fits =
    let wide : suc n < 2 ^ 64 = omega arith in
    rw (natural-again (suc n) wide, lt-ltb n 9223372036854775808 fits.sfits) refl

pub integer-ink : (z : ℤ) → FitsInt z → is_ink (signed_decimal z) ≡ true
integer-ink (pos n) fits = natural-ink n (omega arith)
integer-ink (negsuc n) fits = natural-ink (suc n) (omega arith)
