-- Lines: how far the time on a line comes while OS monotonic time grows.

use Rattle.std.proofs.Common.{◌≡◌, ℕ, ◌+◌, ◌*◌, ◌/◌, ◌≤◌, arith, FitsSigned, w64}
use Rattle.std.proofs.{lemmas.Int.ints, Math.Nat.mul-le-mul_left}
use Rattle.std.specs.Prelude.{ℤ, pos, negsuc, ◌+ℤ◌, ◌-ℤ◌, ◌*ℤ◌, ◌≤ℤ◌, ◌<ℤ◌, unsigned_abs}
use Rattle.std.specs.Int.{w128, int_div_euclid}
use Rattle.ert_defs.specs.{Lines.{Base, line_time}, ClockMoves.GrowsWithinPercent, Sound.IsRate}

-- a number of 64 bits is one of 128
pub wide : (z : ℤ) → FitsSigned w64 z → FitsSigned w128 z
wide z h = omega (arith, ints)

-- so is a difference of two
pub wide_difference : (a b : ℤ) → FitsSigned w64 a → FitsSigned w64 b → FitsSigned w128 (a -ℤ b)
wide_difference a b h k = omega (arith, ints)

-- how far one number is above another
pub record Above (a b : ℤ) : Type 0 where
  pub by : ℕ
  pub is : (b -ℤ a) ≡ pos by

-- a number that is no smaller is above by some number
pub above : (a b : ℤ) → a ≤ℤ b → Above a b
above a b h = record { by = unsigned_abs (b -ℤ a); is = omega (arith, ints) }

-- a product with a rate is at most one percent up and down, in parts per million
pub rate_up : (d : ℕ) (r : ℤ) → IsRate r → (pos d *ℤ r) ≤ℤ pos (d * 10000)
rate_up d (pos k) h =
    let b : k ≤ 10000 = omega (arith, ints, h.high) in
    let m : d * k ≤ d * 10000 = mul-le-mul_left d b in
    omega (arith, ints)
rate_up d (negsuc k) h = omega (arith, ints)

pub rate_down : (d : ℕ) (r : ℤ) → IsRate r → pos 0 ≤ℤ ((pos d *ℤ r) +ℤ pos (d * 10000))
rate_down d (pos k) h = omega (arith, ints)
rate_down d (negsuc k) h =
    let b : k ≤ 9999 = omega (arith, ints, h.low) in
    let m : d * k ≤ d * 9999 = mul-le-mul_left d b in
    omega (arith, ints)

-- the product of a sum
pub mul_sum : (x d : ℕ) (r : ℤ) → (pos (x + d) *ℤ r) ≡ ((pos x *ℤ r) +ℤ (pos d *ℤ r))
mul_sum x d (pos k) = omega (arith, ints)
mul_sum x d (negsuc k) = omega (arith, ints)

-- what is left of a number above its floor is less than one
pub floor_low : (z : ℤ) → (int_div_euclid z (pos 1000000) *ℤ pos 1000000) ≤ℤ z
floor_low (pos a) = omega (arith, ints)
floor_low (negsuc a) = omega (arith, ints)

pub floor_high : (z : ℤ) → z <ℤ ((int_div_euclid z (pos 1000000) *ℤ pos 1000000) +ℤ pos 1000000)
floor_high (pos a) = omega (arith, ints)
floor_high (negsuc a) = omega (arith, ints)

-- the floor of a greater number isn't smaller
pub floor_rises : (y z : ℤ) → y ≤ℤ z → int_div_euclid y (pos 1000000) ≤ℤ int_div_euclid z (pos 1000000)
floor_rises y z h = omega (arith, ints, floor_low y, floor_high y, floor_low z, floor_high z)

-- two floors lie as far apart as the numbers do, less than one to either side
pub floors : (x d : ℕ) (p q s t e : ℤ) → q ≡ (p +ℤ e) → e ≤ℤ pos (d * 10000) → pos 0 ≤ℤ (e +ℤ pos (d * 10000))
    → (s *ℤ pos 1000000) ≤ℤ p → p <ℤ ((s *ℤ pos 1000000) +ℤ pos 1000000)
    → (t *ℤ pos 1000000) ≤ℤ q → q <ℤ ((t *ℤ pos 1000000) +ℤ pos 1000000)
    → ((s +ℤ pos ((99 * d) / 100)) ≤ℤ (t +ℤ pos d)) × ((t +ℤ pos d) ≤ℤ (s +ℤ pos (((101 * d) + 99) / 100)))
floors x d p q s t e is up down p_low p_high q_low q_high = (omega (arith, ints), omega (arith, ints))

-- the time on a line at a distance from its base
abbrev pub line_at : ℤ → ℤ → ℕ → ℤ
line_at time rate x = (time +ℤ pos x) +ℤ int_div_euclid (pos x *ℤ rate) (pos 1000000)

-- between two distances it grows by 99 to 101 percent of what lies between them
pub grows_by : (time rate : ℤ) (x d : ℕ) → IsRate rate
    → ((line_at time rate x +ℤ pos ((99 * d) / 100)) ≤ℤ line_at time rate (x + d))
    × (line_at time rate (x + d) ≤ℤ (line_at time rate x +ℤ pos (((101 * d) + 99) / 100)))
grows_by time rate x d h =
    let p : ℤ = pos x *ℤ rate in
    let q : ℤ = pos (x + d) *ℤ rate in
    let s : ℤ = int_div_euclid p (pos 1000000) in
    let t : ℤ = int_div_euclid q (pos 1000000) in
    let grown = floors x d p q s t (pos d *ℤ rate) (mul_sum x d rate) (rate_up d rate h) (rate_down d rate h)
    (floor_low p) (floor_high p) (floor_low q) (floor_high q) in
    (omega (arith, ints, grown.0), omega (arith, ints, grown.1))

-- on one line, time grows by 99 to 101 percent of OS monotonic time
pub line_grows : (b : Base) (o p : ℤ) → IsRate b.rate → b.mono ≤ℤ o → o ≤ℤ p
    → GrowsWithinPercent o p (line_time b o) (line_time b p)
line_grows b o p rate low high =
    let x = above b.mono o low in
    let d = above o p high in
    let here : (o -ℤ b.mono) ≡ pos x.by = x.is in
    let step : (p -ℤ o) ≡ pos d.by = d.is in
    let there : (p -ℤ b.mono) ≡ pos (x.by + d.by) = omega (arith, ints) in
    let grown = grows_by b.time b.rate x.by d.by rate in
    record { least = rw (here, there, step) grown.0; most = rw (here, there, step) grown.1 }

-- at its base a line has grown by nothing
pub no_product : (r : ℤ) → (pos 0 *ℤ r) ≡ pos 0
no_product (pos k) = omega (arith, ints)
no_product (negsuc k) = omega (arith, ints)

-- at its base a line gives its base time
pub line_base : (b : Base) → line_time b b.mono ≡ b.time
line_base b =
    let none : (b.mono -ℤ b.mono) ≡ pos 0 = omega (arith, ints) in
    rw (none, no_product b.rate) (omega (arith, ints))

-- from its base on, a line rises by at most one percent more than OS monotonic time, with no rounding up
pub line_far : (b : Base) (o : ℤ) → IsRate b.rate → b.mono ≤ℤ o
    → (pos 100 *ℤ line_time b o) ≤ℤ ((pos 100 *ℤ b.time) +ℤ (pos 101 *ℤ (o -ℤ b.mono)))
line_far b o rate low =
    let x = above b.mono o low in
    let here : (o -ℤ b.mono) ≡ pos x.by = x.is in
    let p : ℤ = pos x.by *ℤ b.rate in
    let up = rate_up x.by b.rate rate in
    let floor = floor_low p in
    rw here (omega (arith, ints))
