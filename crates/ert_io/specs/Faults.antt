-- How the counts of a source and a sink go up.

use Rattle.std.specs.Prelude.{ℕ, ◌+◌, ◌≤◌, min}

-- one more than a count, which stops at its last value
abbrev pub one_more : ℕ → ℕ
one_more count = min (count + 1) 18446744073709551615

-- the count is greater than before, or it stands at its last value
abbrev pub Rose : ℕ → ℕ → Type 0
Rose before after = one_more before ≤ after
