-- The next deadline of an interval.

use Rattle.std.proofs.Common.{◌≡◌, ℕ, ◌+◌, ◌*◌, ◌≤◌, ℤ, pos, negsuc, ◌+ℤ◌, ◌-ℤ◌, Bool, true, false, cond, nat_le, Some, None, refl, ap, subst, ◌∙◌, arith}
use Rattle.std.proofs.lemmas.{Bool.{le-leb, leb-true}, Int.ints}
use Rattle.ert_defs.specs.Milliseconds.{deadline_at}

pub deadline_pos : (z : ℤ) (d : ℕ) → deadline_at z ≡ Some d → (z ≡ pos d) × (d ≤ 8796093022207)
deadline_pos (negsuc n) d is = absurd cc
deadline_pos (pos n) d is = at (nat_le n 8796093022207) refl is
  where
    at : (b : Bool) → nat_le n 8796093022207 ≡ b → cond b (Some n) None ≡ Some d → (pos n ≡ pos d) × (d ≤ 8796093022207)
    at true low h = let same : n ≡ d = cc in (ap pos same, subst (λ m. m ≤ 8796093022207) same (leb-true n 8796093022207 low))
    at false low h = absurd cc

pub deadline_low : (d : ℕ) → d ≤ 8796093022207 → deadline_at (pos d) ≡ Some d
deadline_low d low = rw (le-leb d 8796093022207 low) refl

back : (x y : ℤ) → (x +ℤ y) -ℤ y ≡ x
back x y = omega (arith, ints)

-- the deadline of a start at the time of a deadline
pub deadline_back : (d : ℕ) (base : ℤ) → d ≤ 8796093022207 → deadline_at ((pos d +ℤ base) -ℤ base) ≡ Some d
deadline_back d base low = ap deadline_at (back (pos d) base) ∙ deadline_low d low

more : (x base : ℤ) (n p d : ℕ) → (x +ℤ pos (n * p)) -ℤ base ≡ pos d → (x +ℤ pos ((n + 1) * p)) -ℤ base ≡ pos (d + p)
more x base n p d is =
    let product : (n + 1) * p ≡ n * p + p = omega arith in
    rw product (omega (arith, ints, is))

-- one period more
pub deadline_more : (x base : ℤ) (n p d : ℕ) → deadline_at ((x +ℤ pos (n * p)) -ℤ base) ≡ Some d → d + p ≤ 8796093022207
    → deadline_at ((x +ℤ pos ((n + 1) * p)) -ℤ base) ≡ Some (d + p)
deadline_more x base n p d is low = ap deadline_at (more x base n p d (deadline_pos _ d is).0) ∙ deadline_low (d + p) low
