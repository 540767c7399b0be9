-- A timer for a process that a part holds.

use Rattle.std.specs.Prelude.{◌≡◌, ℕ, Option, Some, None}
use Rattle.ert_defs.specs.declared.timer.TimerRef.{TimerRef}
use Rattle.ert_timers.specs.{Freeing.IsHeld, Parts.{Part, slot_at}}
use Rattle.ert_wheel.specs.{Rows.key_in, declared.row.Key.Key}

-- a timer for the process is held, or none is
abbrev pub IsHeldFor : Part → ℕ → Option TimerRef → Type 0
IsHeldFor p process (Some timer) = IsHeld p timer × ((slot_at p.slots timer.slot).dest ≡ process)
IsHeldFor p process None = (k : ℕ) (key : Key) → key_in p.keys k ≡ Some key → (slot_at p.slots k).dest ≡ process → ⊥
