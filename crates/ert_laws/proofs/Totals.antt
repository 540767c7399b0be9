-- Sums of what each of the first so many numbers gives.

use Rattle.std.proofs.Common.{◌≡◌, ◌≢◌, ℕ, zero, suc, ◌+◌, ◌*◌, ◌<◌, ◌≤◌, cond, nat_eq, refl, inl, inr, ap, arith, eq-eqb, ne_eqb}
use Rattle.std.proofs.lemmas.Bool.{cases_eq}
use Rattle.ert_laws.specs.Counts.{total}

-- sums of equal numbers are equal
pub total_same : (f k : ℕ → ℕ) (n : ℕ) → ((i : ℕ) → f i ≡ k i) → total f n ≡ total k n
total_same f k zero same = refl
total_same f k (suc n) same = omega (arith, total_same f k n same, same n)

pub total_sum : (f k : ℕ → ℕ) (n : ℕ) → total (λ i. f i + k i) n ≡ total f n + total k n
total_sum f k zero = refl
total_sum f k (suc n) = omega (arith, total_sum f k n)

pub total_zero : (n : ℕ) → total (λ i. 0) n ≡ 0
total_zero zero = refl
total_zero (suc n) = omega (arith, total_zero n)

-- a number that stands for one place alone
abbrev pub only : ℕ → ℕ → ℕ → ℕ
only x m i = cond (nat_eq m i) x 0

only_other : (x m i : ℕ) → m ≢ i → only x m i ≡ 0
only_other x m i other = rw (ne_eqb m i other) refl

only_own : (x m i : ℕ) → m ≡ i → only x m i ≡ x
only_own x m i same = rw (eq-eqb m i same) refl

total_before : (x m n : ℕ) → n ≤ m → total (only x m) n ≡ 0
total_before x m zero low = refl
total_before x m (suc n) low = omega (arith, total_before x m n (omega arith), only_other x m n (omega arith))

-- is all of a sum over that place and others
pub total_only : (x m n : ℕ) → m < n → total (only x m) n ≡ x
total_only x m zero low = absurd (omega arith)
total_only x m (suc n) low = elim (cases_eq m n) [
  | inl same ↦ omega (arith, total_before x m n (omega arith), only_own x m n same)
  | inr other ↦ omega (arith, total_only x m n (omega arith), only_other x m n other)
]

-- a sum grows with how many are added
pub total_grows : (f : ℕ → ℕ) (m n : ℕ) → m ≤ n → total f m ≤ total f n
total_grows f m zero low =
    let none : m ≡ 0 = omega arith in
    let sums : total f m ≡ total f 0 = ap (total f) none in
    omega arith
total_grows f m (suc n) low = elim (cases_eq m (suc n)) [
  | inl same ↦ let sums : total f m ≡ total f (suc n) = ap (total f) same in omega arith
  | inr other ↦ omega (arith, total_grows f m n (omega arith))
]

-- a sum is at most so many times the most that one gives
pub total_most : (f : ℕ → ℕ) (most n : ℕ) → ((i : ℕ) → f i ≤ most) → total f n ≤ most * n
total_most f most zero each = omega arith
total_most f most (suc n) each =
    let before : total f n ≤ most * n = total_most f most n each in
    let here : f n ≤ most = each n in
    omega arith
