-- The timers that a judge keeps, and the part of the model's state that they are.

use Rattle.std.specs.Prelude.{◌≡◌, ℕ, ℤ, pos, ◌<◌, ◌≤ℤ◌, ◌+◌, slice_get, Bool, true, false, cond, not, ◌&&◌, nat_le, nat_lt, All, List, [], ◌∷◌, map, get_or, length, take, drop, Option, Some, None, option_map}
use Rattle.ert_defs.specs.{Laws.is_armed, Timers.{Row, same_timer}, declared.timer.Status.Status, declared.timer.Status.TheVariants.{Armed, Expired, Delivered, Cancelled, Orphaned, Dropped}, declared.timer.TimerRef.TimerRef}
use Rattle.ert_judge.specs.declared.state.wheels.Timer.{Timer}

-- the first timer of a reference
abbrev pub timer_in : List Timer → TimerRef → Option Timer
timer_in [] r = None
timer_in (t ∷ ts) r = cond (same_timer t.row.timer r) (Some t) (timer_in ts r)

-- the rows of a wheel
abbrev pub rows_of : List Timer → List Row
rows_of ts = map (λ t. t.row) ts

-- the status of a reference
abbrev pub status_among : List Timer → TimerRef → Option Status
status_among ts r = option_map (λ t. t.status) (timer_in ts r)

-- whether none of these timers whose deadline passes the test is armed
abbrev pub is_settled : (ℕ → Bool) → List Timer → Bool
is_settled test [] = true
is_settled test (t ∷ ts) = not (is_armed (Some t.status) && test t.row.deadline) && is_settled test ts

-- whether two statuses are one
abbrev pub same_status : Status → Status → Bool
same_status Armed Armed = true
same_status Expired Expired = true
same_status Delivered Delivered = true
same_status Cancelled Cancelled = true
same_status Orphaned Orphaned = true
same_status Dropped Dropped = true
same_status _ _ = false

-- a timer after one of a reference has moved from one status to another
abbrev pub moved_one : TimerRef → Status → Status → Timer → Timer
moved_one r from to t =
    cond (same_timer t.row.timer r && same_status t.status from) (record { row = t.row; status = to }) t

-- the timers after that
abbrev pub moved : TimerRef → Status → Status → List Timer → List Timer
moved r from to ts = map (moved_one r from to) ts

-- a timer has the reference, and is due by this many milliseconds
pub record IsDueAs (timer : Timer) (r : TimerRef) (now : ℤ) : Type 0 where
  pub named : timer.row.timer ≡ r
  pub due : pos timer.row.deadline ≤ℤ now

-- so is the timer at a place, and no armed one comes before it, by deadline and then by arming
pub record IsFirstAt (ts : List Timer) (i : ℕ) (r : TimerRef) (now : ℤ) : Type 0 where
  pub timer : Timer
  pub stands : slice_get ts i ≡ Some timer
  pub due : IsDueAs timer r now
  pub before : is_settled (λ d. nat_le d timer.row.deadline) (take i ts) ≡ true
  pub behind : is_settled (λ d. nat_lt d timer.row.deadline) (drop (i + 1) ts) ≡ true

-- so is one of a reference
pub record IsFirstDue (ts : List Timer) (r : TimerRef) (now : ℤ) : Type 0 where
  pub place : ℕ
  pub within : place < length ts
  pub first : IsFirstAt ts place r now

-- the timers of a wheel: of another there are none
abbrev pub timers_at : List (List Timer) → ℕ → List Timer
timers_at ws w = get_or ws w []

-- each of these timers has this status by its reference
abbrev pub AreShown : (TimerRef → Option Status) → List Timer → Type 0
AreShown status ts = All (λ t. status t.row.timer ≡ Some t.status) ts

-- a timer is of a wheel, and the first of its reference there has its status
pub record IsOwnOf (w : ℕ) (ts : List Timer) (t : Timer) : Type 0 where
  pub wheel : t.row.timer.wheel ≡ w
  pub shown : status_among ts t.row.timer ≡ Some t.status

-- so is each timer of the wheel
abbrev pub IsOwn : ℕ → List Timer → Type 0
IsOwn w ts = All (IsOwnOf w ts) ts
