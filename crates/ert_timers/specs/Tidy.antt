-- When a part is tidy: it holds as armed exactly the timers that are.

use Rattle.std.specs.Prelude.{◌≡◌, ◌≢◌, ℕ, Some}
use Rattle.ert_defs.specs.{States.State, declared.timer.Status.TheVariants.Armed, declared.timer.TimerRef.TimerRef}
use Rattle.ert_timers.specs.Parts.{Part, last_timer}
use Rattle.ert_wheel.specs.{Rows.key_in, declared.row.Key.Key}

-- each row that is held is of a timer that is armed
abbrev pub IsTidy : State → Part → Type 0
IsTidy s p = (k : ℕ) (key : Key) → key_in p.keys k ≡ Some key → s.status (last_timer p.number p.slots k) ≡ Some Armed

-- each is, but maybe that of one timer
abbrev pub IsTidyBut : State → Part → TimerRef → Type 0
IsTidyBut s p timer = (k : ℕ) (key : Key) → key_in p.keys k ≡ Some key → last_timer p.number p.slots k ≢ timer
    → s.status (last_timer p.number p.slots k) ≡ Some Armed
