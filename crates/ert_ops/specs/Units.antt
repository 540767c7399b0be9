-- Units of time.

use Rattle.std.specs.Prelude.{ℕ, ◌≤◌, ◌<◌}

-- how many of a unit a second may have
pub record IsParts (n : ℕ) : Type 0 where
  pub low : 1 ≤ n
  pub high : n < 9223372036854775808
