-- The expired timers of a scheduler, as callers see them.

use Rattle.std.specs.Prelude.{ℕ, List}
use Rattle.ert_defs.specs.Timers.{Row}

-- expired timers, in order of expiry, and for how many more there is room
pub record Queue : Type 0 where
  pub rows : List Row
  pub room : ℕ
