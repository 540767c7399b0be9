-- A timer as its slot is freed: it was cancelled, or its message was handed over.

use Rattle.std.specs.Prelude.{◌≡◌, ◌≢◌, ◌⊎◌, ℕ, ◌<◌, false, length, None}
use Rattle.std.specs.FinSet as set
use Rattle.ert_defs.specs.declared.timer.TimerRef.{TimerRef}
use Rattle.ert_timers.specs.Parts.{Part, last_timer}
use Rattle.ert_wheel.specs.Rows.{key_in}

-- a slot is in use: it isn't held free, or has a row
abbrev pub IsInUse : Part → ℕ → Type 0
IsInUse p k = (set.contains p.free k ≡ false) ⊎ (key_in p.keys k ≢ None)

-- a timer is the last of its slot, which is in use
pub record IsLast (p : Part) (timer : TimerRef) : Type 0 where
  pub low : timer.slot < length p.slots
  pub named : timer ≡ last_timer p.number p.slots timer.slot
  pub used : IsInUse p timer.slot

-- a timer is held: it is the last of its slot, which has a row
pub record IsHeld (p : Part) (timer : TimerRef) : Type 0 where
  pub low : timer.slot < length p.slots
  pub named : timer ≡ last_timer p.number p.slots timer.slot
  pub row : key_in p.keys timer.slot ≢ None

-- a timer was let go: it is the last of its slot, which has no row and isn't held free
pub record IsLetGo (p : Part) (timer : TimerRef) : Type 0 where
  pub low : timer.slot < length p.slots
  pub named : timer ≡ last_timer p.number p.slots timer.slot
  pub vacant : key_in p.keys timer.slot ≡ None
  pub away : set.contains p.free timer.slot ≡ false
