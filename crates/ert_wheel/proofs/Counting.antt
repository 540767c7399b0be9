-- How many of the numbers below one pass a test.

use Rattle.std.proofs.Common.{◌≡◌, ℕ, zero, suc, ◌+◌, ◌<◌, ◌≤◌, Bool, true, false, cond, sym, ◌∙◌, ap, inl, inr, refl, arith}
use Rattle.std.proofs.lemmas.Bool.{cases_eq}

pub count_below : ℕ → (ℕ → Bool) → ℕ
count_below zero test = 0
count_below (suc n) test = count_below n test + cond (test n) 1 0

bit_low : (b : Bool) → cond b 1 0 ≤ 1
bit_low true = omega arith
bit_low false = omega arith

bits : (a b : Bool) → (a ≡ true → b ≡ true) → cond a 1 0 ≤ cond b 1 0
bits false b more = omega arith
bits true b more = (let e : ◌≡◌ {A = ℕ} (cond b 1 0) 1 = ap (λ t. cond t 1 0) (more refl) in omega (arith, e))

pub count_most : (n : ℕ) (test : ℕ → Bool) → count_below n test ≤ n
unfolding count_below
count_most zero test = omega arith
count_most (suc n) test = omega (arith, count_most n test, bit_low (test n))

pub count_up : (n : ℕ) (test more : ℕ → Bool) → ((j : ℕ) → j < n → test j ≡ true → more j ≡ true) → count_below n test ≤ count_below n more
unfolding count_below
count_up zero test more up = omega arith
count_up (suc n) test more up =
    omega (arith, count_up n test more (λ j low. up j (omega (arith, low))), bits (test n) (more n) (up n (omega arith)))

-- one that passes the one test and not the other
pub count_less : (n k : ℕ) (test more : ℕ → Bool) → ((j : ℕ) → j < n → test j ≡ true → more j ≡ true) → k < n → test k ≡ false → more k ≡ true
    → count_below n test < count_below n more
unfolding count_below
count_less zero k test more up low misses passes = absurd (omega (arith, low))
count_less (suc n) k test more up low misses passes =
    elim (cases_eq k n) [
      | inl e ↦
          let a : ◌≡◌ {A = ℕ} (cond (test n) 1 0) 0 = ap (λ b. cond b 1 0) (ap test (sym e) ∙ misses) in
          let b : ◌≡◌ {A = ℕ} (cond (more n) 1 0) 1 = ap (λ b. cond b 1 0) (ap more (sym e) ∙ passes) in
          omega (arith, a, b, count_up n test more (λ j less. up j (omega (arith, less))))
      | inr ne ↦
          omega (arith, count_less n k test more (λ j less. up j (omega (arith, less))) (omega (arith, low, ne)) misses passes, bits (test n) (more n) (up n (omega arith)))
    ]
