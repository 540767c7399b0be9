-- Windows and buckets by their bits.

use Rattle.std.proofs.Common.{◌≡◌, ℕ, zero, suc, ◌+◌, ◌*◌, ◌/◌, ◌%◌, ◌^◌, ◌<◌, ◌≤◌, ◌∙◌, ap, inl, inr, refl, arith, bit_and}
use Rattle.std.proofs.{Math.Nat.{pow-succ', div-mul-le_self, mod-eq_of_lt}, lemmas.Bool.cases_eq, lemmas.Nat.{and_mask, pow-add}}
use Rattle.ert_wheel.specs.{Levels.bucket_of_window, declared.row.TheConstants.{NEVER, BUCKETS}}

-- the sizes of windows as powers of 2
pub size : (l : ℕ) → 2 ^ (l * 9) ≡ 512 ^ l
size zero = refl
size (suc l) =
    let e : suc l * 9 ≡ l * 9 + 9 = omega arith in
    let p : ◌≡◌ {A = ℕ} (512 ^ suc l) (512 * 512 ^ l) = pow-succ' 512 l in
    let q : ◌≡◌ {A = ℕ} (2 ^ (l * 9 + 9)) (2 ^ (l * 9) * 512) = pow-add 2 (l * 9) 9 in
    ap (λ n. 2 ^ n) e ∙ omega (arith, q, p, size l)

-- the low bits of a time are cleared
pub begin_is : (time level : ℕ) → time < 2 ^ 64
    → time / 2 ^ (level * 9) * 2 ^ (level * 9) % 2 ^ 64 ≡ time / 512 ^ level * 512 ^ level
begin_is time level fits =
    let m : ℕ = 2 ^ (level * 9) in
    mod-eq_of_lt (omega (arith, div-mul-le_self time m)) ∙ ap (λ x. time / x * x) (size level)

-- a window's begin
pub shifted : (window level : ℕ) → window * 512 ^ level < 2 ^ 64
    → window * 2 ^ (level * 9) % 2 ^ 64 ≡ window * 512 ^ level
shifted window level fits =
    let e : window * 2 ^ (level * 9) ≡ window * 512 ^ level = ap (λ m. window * m) (size level) in
    mod-eq_of_lt (omega (arith, e)) ∙ e

-- there are as many buckets as windows that times below NEVER need
pub few_buckets : (level window : ℕ) → level ≤ 4 → window * 512 ^ level < NEVER → bucket_of_window level window < BUCKETS
few_buckets level window most low =
    elim (cases_eq level 4) [
      | inl e ↦
          let at : window * 512 ^ 4 < NEVER = omega (arith, ap (λ l. window * 512 ^ l) e) in
          omega (arith, at, e)
      | inr ne ↦ omega arith
    ]

pub bucket_low : (level time : ℕ) → level ≤ 4 → time < NEVER → bucket_of_window level (time / 512 ^ level) < BUCKETS
bucket_low level time most low =
    few_buckets level (time / 512 ^ level) most (omega (arith, div-mul-le_self time (512 ^ level)))

-- the bucket as it is computed
pub masked : (level window : ℕ) → level * 1024 + bit_and window 1023 ≡ bucket_of_window level window
masked level window = ap (λ n. level * 1024 + n) (and_mask window 10)
