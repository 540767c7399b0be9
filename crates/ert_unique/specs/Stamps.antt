-- Timestamps (`erlang` module reference, `timestamp`).

use Rattle.std.specs.Prelude.{ℕ, ℤ, pos, negsuc, ◌-◌, ◌*◌, ◌/◌, ◌%◌, ◌^◌, Option, Some, None}
use Rattle.ert_unique.specs.declared.stamp.Stamp.{Stamp}

-- the stamp of so many microseconds
abbrev pub stamp_at : ℕ → Stamp
stamp_at u = record {
  mega = pos (u / 10 ^ 12);
  secs = pos (u / 10 ^ 6 - u / 10 ^ 12 * 10 ^ 6);
  micro = pos (u % 10 ^ 6);
}

-- the stamp of a system time in nanoseconds, with its microseconds rounded down; none of a negative one
abbrev pub stamp : ℤ → Option Stamp
stamp (pos n) = Some (stamp_at (n / 1000))
stamp (negsuc n) = None
