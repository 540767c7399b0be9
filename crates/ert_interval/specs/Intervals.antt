-- What every interval of a service keeps.

use Rattle.std.specs.Prelude.{◌≡◌, ◌≢◌, ◌⊎◌, ℕ, suc, ◌+◌, ◌*◌, ◌<◌, ◌≤◌, pos, ◌+ℤ◌, ◌-ℤ◌, Bool, true, List, [], ◌∷◌, ◌++◌, length, slice_index_or, Option, Some, None}
use Rattle.ert_defs.specs.{Entries.arm_entry, Legal.{Legal, names_timer}, Milliseconds.{natural, down, deadline_at}, States.{State, state}, Timers.{Row, deadline_told, row_of}, declared.entry.Actor.TheVariants.Caller}
use Rattle.ert_defs.specs.{declared.entry.Entry.Entry, declared.settings.Settings.Settings, declared.timer.Kind.TheVariants.Wrapped, declared.timer.Start.Start, declared.timer.Status.Status, declared.timer.Status.TheVariants.Armed}
use Rattle.ert_defs.specs.{declared.timer.Status.TheVariants.{Expired, Delivered, Cancelled, Orphaned, Dropped}, declared.timer.TimerRef.TimerRef}
use Rattle.ert_interval.specs.{Deadlines.base, declared.interval.Interval.Interval, declared.interval.IntervalState.IntervalState, declared.interval.IntervalState.TheVariants.{Running, Waiting, Stopped, Ended}}
use Rattle.ert_world.specs.Worlds.{Seen}

-- a turn goes on with an interval in this state
abbrev pub IsOpen : IntervalState → Type 0
IsOpen Running = Unit {0}
IsOpen Waiting = Unit {0}
IsOpen Stopped = ⊥
IsOpen Ended = ⊥

-- a timer has expired, and maybe its message was put or thrown away
abbrev pub IsPastExpiry : Option Status → Type 0
IsPastExpiry (Some Expired) = Unit {0}
IsPastExpiry (Some Delivered) = Unit {0}
IsPastExpiry (Some Dropped) = Unit {0}
IsPastExpiry _ = ⊥

-- the row of a timer of an interval that was started for this deadline
abbrev pub row_for : Interval → TimerRef → ℕ → Row
row_for i r deadline = record { timer = r; deadline = deadline_told r.generation deadline; dest = i.dest; msg = i.msg; kind = Wrapped }

-- a timer that was started in a state has the wanted deadline, or a later one, which is the time of the look
abbrev pub IsToldAt : Settings → State → TimerRef → ℕ → Type 0
IsToldAt g s r wanted =
    (deadline_told r.generation wanted ≡ wanted)
    ⊎ ((wanted < deadline_told r.generation wanted) × (deadline_told r.generation wanted ≡ natural (down g (s.looked (Caller 0)))))

-- the start of a timer: its deadline is the wanted one, but one that had passed at the look of the start may
-- count as the time of that look (in a later round of its slot)
pub record HasToldDeadline (g : Settings) (h : List Entry) (r : TimerRef) (wanted : ℕ) : Type 0 where
  pub before : List Entry
  pub start : Start
  pub behind : List Entry
  pub parted : h ≡ before ++ (arm_entry 0 r start ∷ behind)
  pub told : IsToldAt g (state g before) r wanted

-- a reference names a row of the history: that of the start `At` this many periods after the first
pub record IsFiring (g : Settings) (h : List Entry) (i : Interval) (j : ℕ) (r : TimerRef) : Type 0 where
  pub wheel : r.wheel ≡ i.wheel
  pub deadline : ℕ
  pub due : deadline_at ((i.first +ℤ pos (j * i.period)) -ℤ base g) ≡ Some deadline
  pub row : row_of ((state g h).rows r.wheel) r ≡ Some (row_for i r deadline)
  pub told : HasToldDeadline g h r deadline

-- a timer was armed after another had expired
pub record IsAfter (g : Settings) (h : List Entry) (r next : TimerRef) : Type 0 where
  pub before : List Entry
  pub behind : List Entry
  pub parted : h ≡ before ++ behind
  pub expired : IsPastExpiry ((state g before).status r)
  pub unarmed : (state g before).status next ≡ None

-- the timers of an interval: each names its row, and each but the last has expired before the next was armed
pub record AreFirings (g : Settings) (h : List Entry) (i : Interval) : Type 0 where
  pub each : (j : ℕ) (d : TimerRef) → j < length i.firings.items → IsFiring g h i j (slice_index_or i.firings.items j d)
  pub expired : (j : ℕ) (d : TimerRef) → suc j < length i.firings.items → IsPastExpiry ((state g h).status (slice_index_or i.firings.items j d))
  pub after : (j : ℕ) (d : TimerRef) → suc j < length i.firings.items
      → IsAfter g h (slice_index_or i.firings.items j d) (slice_index_or i.firings.items (suc j) d)

-- the last timer of an interval is armed, or has expired, or was cancelled for the exit of its destination
abbrev pub IsGoing : Option Status → Bool → Type 0
IsGoing None exited = ⊥
IsGoing (Some Cancelled) exited = ⊥
IsGoing (Some Orphaned) exited = exited ≡ true
IsGoing (Some Armed) exited = Unit {0}
IsGoing (Some Expired) exited = Unit {0}
IsGoing (Some Delivered) exited = Unit {0}
IsGoing (Some Dropped) exited = Unit {0}

-- an interval is at its end: its destination has exited, or its next deadline is above the greatest
abbrev pub CannotGoOn : State → Interval → Type 0
CannotGoOn s i = (s.exited i.dest ≡ true) ⊎ (8796093022207 < i.deadline + i.period)

-- what is so of an interval in each state. Running: the last timer is armed, has expired, or was cancelled for
-- the exit of its process. Waiting: the same, but not armed. Stopped: not armed. Ended: not armed, and the
-- process has exited or the next deadline is above the greatest
abbrev pub IsInState : State → Interval → IntervalState → Type 0
IsInState s i Running = IsGoing (s.status i.last) (s.exited i.dest)
IsInState s i Waiting = IsGoing (s.status i.last) (s.exited i.dest) × (s.status i.last ≢ Some Armed)
IsInState s i Stopped = s.status i.last ≢ Some Armed
IsInState s i Ended = (s.status i.last ≢ Some Armed) × CannotGoOn s i

-- an interval of a history
pub record IsIntervalOf (g : Settings) (h : List Entry) (i : Interval) : Type 0 where
  pub wheel : i.wheel < g.schedulers
  pub dest : i.dest < g.processes
  pub before : List TimerRef
  pub ends : i.firings.items ≡ before ++ i.last ∷ []
  pub due : deadline_at ((i.first +ℤ pos (length before * i.period)) -ℤ base g) ≡ Some i.deadline
  pub firings : AreFirings g h i
  pub used : (state g h).status i.last ≢ None
  pub named : names_timer g i.last ≡ true
  pub on : i.last.wheel ≡ i.wheel
  pub row : row_of ((state g h).rows i.last.wheel) i.last ≡ Some (row_for i i.last i.deadline)
  pub is_in : IsInState (state g h) i i.state

-- no request waits or is in a hand
abbrev pub HasNoRequests : State → Type 0
HasNoRequests s = (w : ℕ) → (s.inboxes w ≡ []) × ((s.scheds w).hand ≡ None)

-- the intervals of a world that gave out no seat: its history is legal, no request waits, and each interval
-- has its timers and is in its state
pub record AreIntervalsKept (w : Seen) (is : List Interval) : Type 0 where
  pub lone : w.next ≡ 1
  pub legal : Legal w.settings w.history
  pub idle : HasNoRequests (state w.settings w.history)
  pub each : (n : ℕ) (d : Interval) → n < length is → IsIntervalOf w.settings w.history (slice_index_or is n d)
  pub few : length is ≤ 4294967295
  -- no two have one timer
  pub apart : (m n : ℕ) (d : Interval) → m < n → n < length is → (slice_index_or is m d).last ≢ (slice_index_or is n d).last
