-- The timers of a history: a row for each, in order of arming, and the status of each reference
-- (`erlang` module reference, `start_timer`, `cancel_timer` and `read_timer`).

use Rattle.std.specs.Prelude.{◌≡◌, ℕ, zero, suc, ℤ, ◌+◌, ◌*◌, ◌/◌, ◌%◌, ◌≤◌, Bool, true, false, cond, ◌&&◌, nat_eq, nat_lt, max, List, [], ◌∷◌, ◌++◌, Option, Some, None}
use Rattle.ert_defs.specs.{Milliseconds.deadline_of, declared.entry.Event.Event, declared.entry.Event.TheVariants.{Arm, Cancel, Expire, Orphan, Deliver, Drop}, declared.settings.Settings.Settings, declared.timer.TimerRow.TimerRow}
use Rattle.ert_defs.specs.{declared.timer.Start.Start, declared.timer.Status.Status, declared.timer.Status.TheVariants.{Armed, Expired, Delivered, Cancelled, Orphaned, Dropped}, declared.timer.TimerRef.TimerRef}

-- what stays of a timer from its start on: reference, deadline, destination, message and kind
abbrev pub Row : Type 0
Row = TimerRow

-- whether two references are one
abbrev pub same_timer : TimerRef → TimerRef → Bool
same_timer r t = nat_eq r.wheel t.wheel && nat_eq r.slot t.slot && nat_eq r.generation t.generation

-- which use of its slot's round a generation is, counted from 1 (profile). Those of the first round are 1 to
-- 262143; one of a later round is that number times 2^43, plus the deadline of its timer
abbrev pub use_of : ℕ → ℕ
use_of generation = cond (nat_lt generation 8796093022208) generation (generation / 8796093022208)

-- the uses of a slot (profile): the generation of its last timer, 0 where there is none; the milliseconds
-- after the start time from which on its round may have timers, 0 in the first; and one above the greatest
-- deadline of its timers, 0 where there are none
pub record Uses : Type 0 where
  pub last : ℕ
  pub since : ℕ
  pub above : ℕ

-- after the 262143rd use of a round the slot rests until the deadlines of all its timers have passed, whatever
-- became of these timers, and then the next round begins (profile)
abbrev pub turned : Uses → Uses
turned u = cond (nat_lt (use_of u.last) 262143) u (record { last = 0; since = u.above; above = u.above })

-- the deadline of a timer in a round (profile): in a later one a deadline that has passed counts as the time
-- of the look. The timer is due at once, as it would be anyway
abbrev pub deadline_in : ℕ → ℕ → ℕ → ℕ
deadline_in zero now wanted = wanted
deadline_in (suc since) now wanted = max now wanted

-- the generation of a use in a round, by the number of the use (profile). Each deadline of a later round is
-- above all of the rounds before, so no generation names two timers of a slot
abbrev pub generation_in : ℕ → ℕ → ℕ → ℕ
generation_in zero count deadline = count
generation_in (suc since) count deadline = 8796093022208 * count + deadline

-- a slot doesn't rest, and this is the generation of its next timer, started at a look for a deadline
-- (profile)
pub record IsNextUse (u : Uses) (now wanted generation : ℕ) : Type 0 where
  pub rested : (turned u).since ≤ now
  pub within : deadline_in (turned u).since now wanted ≤ 8796093022207
  pub counts : generation ≡ generation_in (turned u).since (use_of (turned u).last + 1) (deadline_in (turned u).since now wanted)

-- the deadline of a timer that was started for one (profile): in the first round that one, and in a later one
-- that of its generation
abbrev pub deadline_told : ℕ → ℕ → ℕ
deadline_told generation wanted = cond (nat_lt generation 8796093022208) wanted (generation % 8796093022208)

-- the row of a start, where its deadline is within the limits
abbrev pub row_from : TimerRef → Start → Option ℕ → List Row
row_from timer start None = []
row_from timer start (Some wanted) =
    (record { timer = timer; deadline = deadline_told timer.generation wanted; dest = start.dest; msg = start.msg; kind = start.kind }) ∷ []

-- the rows of a wheel after an event whose maker has this last look
abbrev pub rows_after : Settings → ℤ → ℕ → List Row → Event → List Row
rows_after g look w rows (Arm timer start) =
    cond (nat_eq timer.wheel w) (rows ++ row_from timer start (deadline_of g start look)) rows
rows_after g look w rows _ = rows

-- the last generation of a slot of a wheel after an event
abbrev pub last_after : ℕ → ℕ → ℕ → Event → ℕ
last_after w k last (Arm timer start) = cond (nat_eq timer.wheel w && nat_eq timer.slot k) timer.generation last
last_after w k last _ = last

-- since when the round of a slot of a wheel may have timers, after an event
abbrev pub since_after : ℕ → ℕ → Uses → Event → ℕ
since_after w k u (Arm timer start) = cond (nat_eq timer.wheel w && nat_eq timer.slot k) (turned u).since u.since
since_after w k u _ = u.since

-- one above the greatest deadline, with a timer that was started for one
abbrev pub above_with : ℕ → ℕ → Option ℕ → ℕ
above_with generation above None = above
above_with generation above (Some wanted) = max above (deadline_told generation wanted + 1)

-- one above the greatest deadline of a slot of a wheel, after an event whose maker has this last look
abbrev pub above_after : Settings → ℤ → ℕ → ℕ → ℕ → Event → ℕ
above_after g look w k above (Arm timer start) =
    cond (nat_eq timer.wheel w && nat_eq timer.slot k) (above_with timer.generation above (deadline_of g start look)) above
above_after g look w k above _ = above

-- the first row of a reference
abbrev pub row_of : List Row → TimerRef → Option Row
row_of [] timer = None
row_of (r ∷ rows) timer = cond (same_timer r.timer timer) (Some r) (row_of rows timer)

-- a reference has a row among these
pub record Stands (rows : List Row) (r : TimerRef) : Type 0 where
  pub row : Row
  pub is : row_of rows r ≡ Some row

-- settling: only an armed timer moves
abbrev pub settled_as : Status → Option Status → Option Status
settled_as to (Some Armed) = Some to
settled_as to status = status

-- handing over: only an expired timer moves
abbrev pub handed_as : Status → Option Status → Option Status
handed_as to (Some Expired) = Some to
handed_as to status = status

-- the status of a reference after an event, which has the reference's wheel or not; None before it is armed
abbrev pub status_after : TimerRef → Bool → Option Status → Event → Option Status
status_after r has_wheel status (Arm timer start) = cond (has_wheel && same_timer timer r) (Some Armed) status
status_after r has_wheel status (Cancel timer left) = cond (same_timer timer r) (settled_as Cancelled status) status
status_after r has_wheel status (Expire timer) = cond (same_timer timer r) (settled_as Expired status) status
status_after r has_wheel status (Orphan timer) = cond (same_timer timer r) (settled_as Orphaned status) status
status_after r has_wheel status (Deliver timer) = cond (same_timer timer r) (handed_as Delivered status) status
status_after r has_wheel status (Drop timer) = cond (same_timer timer r) (handed_as Dropped status) status
status_after r has_wheel status _ = status

-- a slot is taken while its last timer is armed or expired
abbrev pub is_taken : Option Status → Bool
is_taken (Some Armed) = true
is_taken (Some Expired) = true
is_taken _ = false

-- the reference of a use of a slot
abbrev pub timer_at : ℕ → ℕ → ℕ → TimerRef
timer_at w k generation = record { wheel = w; slot = k; generation = generation }
