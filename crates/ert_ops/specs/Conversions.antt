-- Conversion between units of time (`erlang` module reference, `convert_time_unit`).

use Rattle.std.specs.Prelude.{ℕ, ℤ, pos, ◌+ℤ◌, ◌*ℤ◌, ◌≤ℤ◌, ◌<ℤ◌}
use Rattle.std.specs.Int.{int_div_euclid}
use Rattle.ert_ops.specs.Units.{IsParts}

-- a time of one unit in another, each by its parts per second: time * to / from, rounded down
abbrev pub converted : ℤ → ℕ → ℕ → ℤ
converted time from to = int_div_euclid (time *ℤ pos to) (pos from)

-- a number of parts is not later than a time, and the next one is
pub record IsRoundedDown (time : ℤ) (from to : ℕ) (x : ℤ) : Type 0 where
  pub low : (x *ℤ pos from) ≤ℤ (time *ℤ pos to)
  pub high : (time *ℤ pos to) <ℤ ((x +ℤ pos 1) *ℤ pos from)

-- each converted time is rounded down
abbrev pub LawOfRounding : Type 0
LawOfRounding = (time : ℤ) (from to : ℕ) → IsParts from → IsRoundedDown time from to (converted time from to)
