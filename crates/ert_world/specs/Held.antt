-- How many rows a wheel of a world holds, and that it holds fewer.

use Rattle.std.specs.Prelude.{◌≡◌, ℕ, ◌+◌, ◌≤◌, count_by, slice_index_or}
use Rattle.std.specs.Option.{is_some}
use Rattle.ert_defs.specs.{States.state, declared.timer.Status.TheVariants.Armed}
use Rattle.ert_laws.specs.Counts.{count_at}
use Rattle.ert_timers.specs.Parts.{Part}
use Rattle.ert_world.specs.Worlds.{Seen}

-- a wheel of a world holds so many rows
abbrev pub HoldsSoManyRows : Seen → ℕ → ℕ → Type 0
HoldsSoManyRows w i n = (d : Part) → n ≡ count_by is_some (slice_index_or w.wheels i d).keys

-- where no seat was given out, so many timers of a wheel are armed
abbrev pub AreArmed : Seen → ℕ → ℕ → Type 0
AreArmed w i n = w.next ≡ 1 → n ≡ count_at (state w.settings w.history) Armed i

-- a wheel holds at least so many rows fewer than before
abbrev pub HoldsFewer : Seen → Seen → ℕ → ℕ → Type 0
HoldsFewer old new i n =
    (d : Part) → count_by is_some (slice_index_or new.wheels i d).keys + n ≤ count_by is_some (slice_index_or old.wheels i d).keys
