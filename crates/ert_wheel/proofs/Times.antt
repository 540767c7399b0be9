-- Windows of levels: how those of one level stand to those of the levels above, and to the buckets.

use Rattle.std.proofs.Common.{◌≡◌, ℕ, zero, suc, ◌+◌, ◌*◌, ◌/◌, ◌%◌, ◌^◌, ◌<◌, ◌≤◌, sym, subst, ◌∙◌, ap, arith}
use Rattle.std.proofs.Math.Nat.{pow-succ', div-div-eq-div-mul, lt-div-mul-add, suc-mul, mul-le-mul_right}
use Rattle.ert_wheel.specs.Levels.{bucket_of_window}

-- a window is never empty
pub some_wide : (level : ℕ) → 0 < 512 ^ level
some_wide zero = omega arith
some_wide (suc level) =
    let p : ◌≡◌ {A = ℕ} (512 ^ suc level) (512 * 512 ^ level) = pow-succ' 512 level in
    omega (arith, p, some_wide level)

-- a window of the level above has 512 windows
pub above : (level time : ℕ) → time / 512 ^ suc level ≡ time / 512 ^ level / 512
above level time =
    let p : ◌≡◌ {A = ℕ} (512 ^ suc level) (512 * 512 ^ level) = pow-succ' 512 level in
    let q : 512 * 512 ^ level ≡ 512 ^ level * 512 = omega arith in
    ap (λ m. time / m) (p ∙ q) ∙ sym (div-div-eq-div-mul time (512 ^ level) 512)

-- a time in an earlier window is before the begin of a later one
pub before_window : (n w p : ℕ) → 1 ≤ p → n / p < w → n < w * p
before_window n w p some less =
    let up : suc (n / p) ≤ w = less in
    omega (arith, lt-div-mul-add {a = n} some, suc-mul (n / p) p, mul-le-mul_right p up)

-- the windows of the lowest level are milliseconds
pub lowest : (time : ℕ) → time / 512 ^ 0 ≡ time
lowest time = omega arith

-- later times have later windows, or the same
pub later : (level n t : ℕ) → n ≤ t → n / 512 ^ level ≤ t / 512 ^ level
later zero n t up = omega (arith, lowest n, lowest t)
later (suc level) n t up = omega (arith, above level n, above level t, later level n t up)

-- times in one window of a level are in one of each level above
pub one_above : (low more n t : ℕ) → n / 512 ^ low ≡ t / 512 ^ low → n / 512 ^ (more + low) ≡ t / 512 ^ (more + low)
one_above low zero n t same =
    let e : low ≡ 0 + low = omega arith in
    subst (λ (l : ℕ). n / 512 ^ l ≡ t / 512 ^ l) e same
one_above low (suc more) n t same =
    let e : suc (more + low) ≡ suc more + low = omega arith in
    subst (λ (l : ℕ). n / 512 ^ l ≡ t / 512 ^ l) e
    (omega (arith, above (more + low) n, above (more + low) t, one_above low more n t same))

-- windows of a level that may be in use at one time have buckets of their own
pub one_window : (next v w : ℕ) → next ≤ v → next ≤ w → v / 512 ≤ next / 512 + 1 → w / 512 ≤ next / 512 + 1
    → v % 1024 ≡ w % 1024 → v ≡ w
one_window next v w up up' near near' same = omega arith

-- a bucket tells its level, and the place there
pub record IsOneBucket (k l v w : ℕ) : Type 0 where
  pub level : k ≡ l
  pub place : v % 1024 ≡ w % 1024

pub one_bucket : (k l v w : ℕ) → bucket_of_window k v ≡ bucket_of_window l w → IsOneBucket k l v w
one_bucket k l v w same = record { level = omega arith; place = omega arith }
