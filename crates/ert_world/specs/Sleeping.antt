-- How early a timer of a world's wheel may be due, and how the rows of settled timers go.

use Rattle.std.specs.Prelude.{◌≡◌, ℕ, List, Option, Some, slice_index_or}
use Rattle.ert_defs.specs.States.{state}
use Rattle.ert_effects.specs.Sleeping.{Probed, DropsSettled, FindsArmed}
use Rattle.ert_timers.specs.{Parts.Part, Sleeping.{HasLost, IsFoundNext}}
use Rattle.ert_wheel.specs.{Rows.key_in, declared.row.Key.Key}
use Rattle.ert_world.specs.Worlds.{Seen, Goes, By}

-- a time that is answered is that of a timer which is armed; or one is armed, and it is the begin of a window; or 1,024 rows of
-- the wheel have gone, or the time is before the first that the wheel hasn't passed
abbrev pub IsFoundAt : Seen → Seen → ℕ → Option ℕ → Type 0
IsFoundAt old new i answer =
    (d : Part) → IsFoundNext (state new.settings new.history) (slice_index_or old.wheels i d) (slice_index_or new.wheels i d) answer

-- the time of a wheel is the same
abbrev pub HasSameTimeAt : Seen → Seen → ℕ → Type 0
HasSameTimeAt old new i = (d : Part) → (slice_index_or new.wheels i d).passed ≡ (slice_index_or old.wheels i d).passed

-- `drop_settled`: so many rows of a wheel have gone, and each that is left is of a timer that its probe found armed
pub record DropsSettledAt (old new : Seen) (i count : ℕ) : Type 0 where
  pub probes : List Probed
  pub goes : Goes old (By old (λ g. DropsSettled g i count probes)) new
  pub fewer : (d : Part) → HasLost count (slice_index_or old.wheels i d) (slice_index_or new.wheels i d)
  pub armed : (d : Part) (k : ℕ) (key : Key) → key_in (slice_index_or new.wheels i d).keys k ≡ Some key → FindsArmed k probes
