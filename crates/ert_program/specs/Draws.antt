-- The draws of the generator: a linear congruential one, with the constants of Knuth's MMIX.

use Rattle.std.specs.Prelude.{ℕ, ◌+◌, ◌*◌, ◌/◌, ◌%◌, ◌^◌}

-- what a draw puts in place of x
unfoldable pub after : ℕ → ℕ
after x = (x * 6364136223846793005 + 1442695040888963407) % 2 ^ 64

-- what a draw at x gives, without a remainder
unfoldable pub drawn : ℕ → ℕ
drawn x = after x / 2 ^ 33

-- what a draw below a number gives at x
unfoldable pub draw : ℕ → ℕ → ℕ
draw below x = drawn x % below
