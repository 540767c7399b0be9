-- The fixed deadlines of an interval, in milliseconds after the start time.

use Rattle.std.specs.Prelude.{◌≡◌, ℕ, ◌<◌, ◌≤◌, ℤ, pos, ◌+ℤ◌, Option, Some, None}
use Rattle.std.specs.Int.{int_div_euclid}
use Rattle.ert_defs.specs.declared.{settings.Settings.Settings, timer.Kind.TheVariants.Wrapped, timer.Start.Start, timer.When.TheVariants.At}

-- the start time in whole milliseconds
abbrev pub base : Settings → ℤ
base g = int_div_euclid g.start (pos 1000000)

-- the monotonic time in milliseconds of a deadline
abbrev pub time_of_deadline : Settings → ℕ → ℤ
time_of_deadline g deadline = pos deadline +ℤ base g

-- the start of a timer of an interval, at a monotonic time in milliseconds
abbrev pub start_at : ℤ → ℕ → ℕ → Start
start_at time dest msg = record { when = At time; dest = dest; msg = msg; kind = Wrapped }

-- a deadline is given where it is within its limits
abbrev pub NextIs : ℕ → Option ℕ → Type 0
NextIs next (Some d) = (d ≡ next) × (next ≤ 8796093022207)
NextIs next None = 8796093022207 < next
