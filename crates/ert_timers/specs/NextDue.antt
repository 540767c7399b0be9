-- When the next timer of a wheel may be due.

use Rattle.std.specs.Prelude.{◌≡◌, ℕ, ◌*◌, ◌<◌, ◌≤◌, ◌^◌, ◌⊎◌, Option, Some, None, MatchOption, slice_get}
use Rattle.ert_defs.specs.{States.State, Timers.Row, declared.timer.Status.TheVariants.Armed}
use Rattle.ert_timers.specs.Parts.{Part}
use Rattle.ert_wheel.specs.NextDue.{NoRow, IsNextDue}

-- a timer of a wheel is armed: it is that of a row
pub record IsArmed (s : State) (w : ℕ) (row : Row) : Type 0 where
  pub place : ℕ
  pub is : slice_get (s.rows w) place ≡ Some row
  pub armed : s.status row.timer ≡ Some Armed

-- some timer of a wheel is armed and due at a time
pub record SomeArmedAt (s : State) (w time : ℕ) : Type 0 where
  pub row : Row
  pub armed : IsArmed s w row
  pub at : row.deadline ≡ time

-- no armed timer of a wheel is due before a time; where there is no time none is armed
abbrev pub NoneArmedBefore : State → ℕ → Option ℕ → Type 0
NoneArmedBefore s w None = (row : Row) → IsArmed s w row → ⊥
NoneArmedBefore s w (Some time) = (row : Row) → IsArmed s w row → time ≤ row.deadline

-- a window of 512 milliseconds, or of a power of that, begins after the first time that wasn't passed, and some timer of
-- a wheel is armed
pub record BeginsArmed (s : State) (w passed time : ℕ) : Type 0 where
  pub later : passed < time
  pub level : ℕ
  pub above : 1 ≤ level
  pub highest : level ≤ 4
  pub window : ℕ
  pub begin : time ≡ window * 512 ^ level
  pub row : Row
  pub armed : IsArmed s w row

-- a time is that of an armed timer, or one is armed and a window begins there
abbrev pub IsNearest : State → ℕ → ℕ → Option ℕ → Type 0
IsNearest s w passed None = Unit {0}
IsNearest s w passed (Some time) = SomeArmedAt s w time ⊎ BeginsArmed s w passed time

-- how early the next row that a part holds is due, and None where it holds none
abbrev pub IsNextHeld : Part → Option ℕ → Type 0
IsNextHeld p answer = MatchOption answer (NoRow p.keys) (IsNextDue p.keys p.stands p.passed)
