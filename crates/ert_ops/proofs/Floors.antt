-- That the quotient is the floor.

use Rattle.std.proofs.Common.{◌≡◌, ℕ, ◌+◌, ◌*◌, ◌/◌, ◌%◌, ◌<◌, ◌≤◌, zero, suc, sym, subst, arith}
use Rattle.std.proofs.{Math.Nat.{div-add-mod, mod-lt}, lemmas.Int.ints}
use Rattle.std.specs.Prelude.{ℤ, pos, negsuc, ◌+ℤ◌, ◌*ℤ◌, ◌≤ℤ◌, ◌<ℤ◌}
use Rattle.std.specs.Int.{int_div_euclid}
use Rattle.ert_ops.specs.Conversions.{LawOfRounding}

-- a quotient is a floor
pub record IsFloor (z x : ℤ) (n : ℕ) : Type 0 where
  pub low : (x *ℤ pos n) ≤ℤ z
  pub high : z <ℤ ((x +ℤ pos 1) *ℤ pos n)

natural_floor : (a n q : ℕ) → q * n ≤ a → a < (q + 1) * n → IsFloor (pos a) (pos q) n
natural_floor a n q low high = record { low = omega (arith, ints); high = omega (arith, ints) }

negative_floor : (a n q : ℕ) → q * n ≤ a → a < (q + 1) * n → IsFloor (negsuc a) (negsuc q) n
negative_floor a n zero low high = record { low = omega (arith, ints); high = omega (arith, ints) }
negative_floor a n (suc p) low high =
    let next : (negsuc (suc p) +ℤ pos 1) ≡ negsuc p = omega (arith, ints) in
    let below : negsuc a <ℤ (negsuc p *ℤ pos n) = omega (arith, ints) in
    record { low = omega (arith, ints); high = subst (λ (x : ℤ). negsuc a <ℤ (x *ℤ pos n)) (sym next) below }

pub floor : (z : ℤ) (n : ℕ) → 1 ≤ n → IsFloor z (int_div_euclid z (pos n)) n
floor (pos a) n h =
    let e : n * (a / n) + a % n ≡ a = div-add-mod a n in
    let b : a % n < n = mod-lt a h in
    natural_floor a n (a / n) (omega arith) (omega arith)
floor (negsuc a) n h =
    let e : n * (a / n) + a % n ≡ a = div-add-mod a n in
    let b : a % n < n = mod-lt a h in
    negative_floor a n (a / n) (omega arith) (omega arith)

pub rounded_down : LawOfRounding
rounded_down time from to parts =
    let f = floor (time *ℤ pos to) from parts.low in
    record { low = f.low; high = f.high }
