-- Whole milliseconds after the start time, what is left of a timer, and the deadline of a start
-- (`erlang` module reference, `start_timer`; the rounding is the profile's).

use Rattle.std.specs.Prelude.{ℕ, ℤ, pos, negsuc, ◌+ℤ◌, ◌-ℤ◌, cond, nat_le, Option, Some, None}
use Rattle.std.specs.Int.{int_div_euclid}
use Rattle.ert_defs.specs.declared.{settings.Settings.Settings, timer.Start.Start, timer.When.When, timer.When.TheVariants.{After, At}}

-- the milliseconds from the start time to a time, rounded down (profile)
abbrev pub down : Settings → ℤ → ℤ
down g x = int_div_euclid (x -ℤ g.start) (pos 1000000)

-- the same, rounded up (profile)
abbrev pub up : Settings → ℤ → ℤ
up g x = int_div_euclid ((x -ℤ g.start) +ℤ pos 999999) (pos 1000000)

-- a number, or 0 where it is negative
abbrev pub natural : ℤ → ℕ
natural (pos n) = n
natural (negsuc n) = 0

-- the whole milliseconds from a time to the deadline of a timer, the time rounded up (`erlang` module
-- reference, `read_timer`; the rounding is the profile's); 0 where it has passed
abbrev pub left : Settings → ℕ → ℤ → ℕ
left g deadline x = natural (pos deadline -ℤ up g x)

-- a deadline within its limits (profile): 0 to 8796093022207 milliseconds after the start time
abbrev pub deadline_at : ℤ → Option ℕ
deadline_at (pos n) = cond (nat_le n 8796093022207) (Some n) None
deadline_at (negsuc n) = None

-- the deadline of a timer that is started at a time (`erlang` module reference, `start_timer`; the rounding
-- and the limits are the profile's): that time rounded up plus so many milliseconds, or a time of the clock
-- less the start time. None where the start is refused: the milliseconds are negative, or the deadline isn't
-- from 0 to 8796093022207
abbrev pub deadline_when : Settings → When → ℤ → Option ℕ
deadline_when g (After (pos n)) x = deadline_at (up g x +ℤ pos n)
deadline_when g (After (negsuc n)) x = None
deadline_when g (At v) x = deadline_at (v -ℤ int_div_euclid g.start (pos 1000000))

-- the deadline of a start that is made at a time; None where it is refused
abbrev pub deadline_of : Settings → Start → ℤ → Option ℕ
deadline_of g start x = deadline_when g start.when x
