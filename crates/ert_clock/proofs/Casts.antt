-- Numbers of 64 bits, and what is computed of them in 128 bits.

use Rattle.std.proofs.Common.{◌≡◌, ℕ, arith, FitsSigned, w64, to_z, of_z, to_z-of_z, ◌*◌, ◌≤◌}
use Rattle.std.proofs.{lemmas.Int.{ints, unsigned_abs-mul}, Math.Nat.mul-le-mul_left}
use Rattle.std.specs.Prelude.{ℤ, pos, ◌+ℤ◌, ◌-ℤ◌, ◌*ℤ◌, unsigned_abs}
use Rattle.std.specs.Int.{w16, w128, int_div_euclid}
use Rattle.ert_defs.proofs.Numbers.{wide, wide_difference, floor_low, floor_high}

-- a number of 16 bits is one of 128
pub wide_rate : (z : ℤ) → FitsSigned w16 z → FitsSigned w128 z
wide_rate z h = omega (arith, ints)

-- so is a sum of two of 64
pub wide_sum : (a b : ℤ) → FitsSigned w64 a → FitsSigned w64 b → FitsSigned w128 (a +ℤ b)
wide_sum a b h k = omega (arith, ints)

-- a number of 64 bits, cast to 128, is itself
pub cast : (a : ℤ) → FitsSigned w64 a → to_z w128 (of_z w128 (to_z w64 (of_z w64 a))) ≡ a
cast a h = let l : FitsSigned w128 a = wide a h in simp to_z-of_z

-- so is one of 16
pub cast_rate : (r : ℤ) → FitsSigned w16 r → to_z w128 (of_z w128 (to_z w16 (of_z w16 r))) ≡ r
cast_rate r h = let l : FitsSigned w128 r = wide_rate r h in simp to_z-of_z

-- the difference of two that were cast is theirs
pub apart : (a b : ℤ) → FitsSigned w64 a → FitsSigned w64 b
    → to_z w128 (of_z w128 (to_z w128 (of_z w128 (to_z w64 (of_z w64 a))) -ℤ to_z w128 (of_z w128 (to_z w64 (of_z w64 b))))) ≡ a -ℤ b
apart a b h k =
    let d : FitsSigned w128 (a -ℤ b) = wide_difference a b h k in
    simp (cast a h, cast b k, to_z-of_z d)

-- how far a number is above a sum of two
pub wide_error : (s a b : ℤ) → FitsSigned w64 s → FitsSigned w64 a → FitsSigned w64 b
    → FitsSigned w128 (s -ℤ (a +ℤ b))
wide_error s a b h k l = omega (arith, ints)

-- the product of a bounded number and a rate
pub product_high : (d : ℕ) (x r : ℤ) → unsigned_abs x ≤ d → FitsSigned w16 r → unsigned_abs (x *ℤ r) ≤ (d * 32768)
product_high d x r h rate =
    let e : unsigned_abs r ≤ 32768 = omega (arith, ints) in
    let m : (unsigned_abs x * unsigned_abs r) ≤ (unsigned_abs x * 32768) = mul-le-mul_left (unsigned_abs x) e in
    rw unsigned_abs-mul (omega arith)

-- what the time on a line is computed from: the casts of the time and of the rate, the distance from the base, the
-- time without the rate, the product with the rate, its floor, and all together
pub record LineFits (t a b r : ℤ) : Type 0 where
  pub start : to_z w128 (of_z w128 (to_z w64 (of_z w64 t))) ≡ t
  pub rate : to_z w128 (of_z w128 (to_z w16 (of_z w16 r))) ≡ r
  pub distance : to_z w128 (of_z w128 (to_z w128 (of_z w128 (to_z w64 (of_z w64 a))) -ℤ to_z w128 (of_z w128 (to_z w64 (of_z w64 b))))) ≡ a -ℤ b
  pub plain : FitsSigned w128 (t +ℤ (a -ℤ b))
  pub product : FitsSigned w128 ((a -ℤ b) *ℤ r)
  pub floor : FitsSigned w128 (int_div_euclid ((a -ℤ b) *ℤ r) (pos 1000000))
  pub time : FitsSigned w128 ((t +ℤ (a -ℤ b)) +ℤ int_div_euclid ((a -ℤ b) *ℤ r) (pos 1000000))

pub line_fits : (t a b r : ℤ) → FitsSigned w64 t → FitsSigned w64 a → FitsSigned w64 b → FitsSigned w16 r
    → LineFits t a b r
line_fits t a b r f h k rate =
    let x : ℤ = a -ℤ b in
    let d : unsigned_abs x ≤ 18446744073709551616 = omega (arith, ints) in
    let p = product_high 18446744073709551616 x r d rate in
    let low = floor_low (x *ℤ r) in
    let high = floor_high (x *ℤ r) in
    record {
      start = cast t f;
      rate = cast_rate r rate;
      distance = apart a b h k;
      plain = omega (arith, ints);
      product = omega (arith, ints, p);
      floor = omega (arith, ints, p, low, high);
      time = omega (arith, ints, p, low, high);
    }
