-- Which entries the intervals of a wheel make in a turn, and what becomes of each interval.

use Rattle.std.specs.Prelude.{◌≡◌, ◌≢◌, ◌⊎◌, ℕ, zero, suc, ◌+◌, ◌<◌, ◌≤◌, Bool, true, false, List, [], ◌∷◌, ◌++◌, length, slice_index_or, Option, Result, Ok, Err}
use Rattle.std.specs.Option.{is_some}
use Rattle.ert_effects.specs.{TimerCalls.{Reads, Starts}, WheelCalls.TellsAlive, declared.answers.StartErr.TheVariants.Full as WheelIsFull}
use Rattle.ert_defs.specs.declared.{entry.Actor.TheVariants.Caller, memory.NoMemory.NoMemory, settings.Settings.Settings, timer.Start.Start, timer.TimerRef.TimerRef}
use Rattle.ert_interval.specs.{Calls.{AsksSame, IsTurnedBy, Unmoved}, Deadlines.{start_at, time_of_deadline}, declared.interval.Interval.Interval, declared.interval.IntervalState.IntervalState}
use Rattle.ert_interval.specs.{declared.interval.IntervalState.TheVariants.{Running, Waiting, Ended}}
use Rattle.ert_world.specs.{Frees.{IsUsedUpAt, SearchesAt}, Worlds.{Seen, Goes, By}}

-- the settings and the seats of a world stay
pub record KeepsSeats (old new : Seen) : Type 0 where
  pub settings : new.settings ≡ old.settings
  pub next : new.next ≡ old.next

-- the start of the next timer of an interval
abbrev pub next_start : Settings → Interval → Start
next_start g i = start_at (time_of_deadline g (i.deadline + i.period)) i.dest i.msg

-- only the state of an interval becomes another
pub record IsPut (state : IntervalState) (old new : Interval) : Type 0 where
  pub same : AsksSame old new
  pub state_is : new.state ≡ state
  pub last : new.last ≡ old.last
  pub deadline : new.deadline ≡ old.deadline
  pub firings : new.firings.items ≡ old.firings.items

-- an interval has this timer as its next
pub record HasNext (timer : TimerRef) (old new : Interval) : Type 0 where
  pub same : AsksSame old new
  pub state_is : new.state ≡ Running
  pub last : new.last ≡ timer
  pub deadline : new.deadline ≡ old.deadline + old.period
  pub firings : new.firings.items ≡ old.firings.items ++ timer ∷ []

-- the next timer is started on the wheel of the interval; where no slot is free the interval waits, and the start that was refused
-- left no slot held free and looked at others, round the wheel; when out of memory no start is made, and the interval stays as it was
abbrev pub StartsNext : Result Bool NoMemory → Seen → Interval → Seen → Interval → Type 0
StartsNext (Ok true) old i new j =
    (timer : TimerRef) × Goes old (By old (λ g. Starts g 0 i.wheel (next_start g i) (Ok timer))) new × HasNext timer i j
StartsNext (Ok false) old i new j =
    Goes old (By old (λ g. Starts g 0 i.wheel (next_start g i) (Err WheelIsFull))) new × IsUsedUpAt old new i.wheel × SearchesAt old new i.wheel × IsPut Waiting i j
StartsNext (Err e) old i new j = (new ≡ old) × Unmoved i j

-- nothing is done, and the interval ends
abbrev pub EndsQuietly : Result Bool NoMemory → Seen → Interval → Seen → Interval → Type 0
EndsQuietly answer old i new j = (answer ≡ Ok false) × (new ≡ old) × IsPut Ended i j

-- the next timer is started where the destination lives; else the interval ends
abbrev pub StartsWhere : Bool → Result Bool NoMemory → Seen → Interval → Seen → Interval → Type 0
StartsWhere true answer old i new j = StartsNext answer old i new j
StartsWhere false answer old i new j = EndsQuietly answer old i new j

-- whether the destination lives is looked at first
pub record LooksFirst (answer : Result Bool NoMemory) (old : Seen) (i : Interval) (new : Seen) (j : Interval) : Type 0 where
  pub looked : Seen
  pub lives : Bool
  pub look : Goes old (By old (λ g. TellsAlive g (Caller 0) i.dest lives)) looked
  pub starts : StartsWhere lives answer looked i new j

-- by the last timer: while it is armed nothing more is done; else the interval ends where its next deadline
-- is above the greatest
abbrev pub GoesWhere : Bool → Result Bool NoMemory → Seen → Interval → Seen → Interval → Type 0
GoesWhere true answer old i new j = (answer ≡ Ok false) × (new ≡ old) × (j ≡ i)
GoesWhere false answer old i new j =
    ((8796093022207 < i.deadline + i.period) × EndsQuietly answer old i new j)
    ⊎ ((i.deadline + i.period ≤ 8796093022207) × LooksFirst answer old i new j)

-- the last timer of an interval is read: it is armed where something is left
pub record ReadsLast (i : Interval) (armed : Bool) (old new : Seen) : Type 0 where
  pub left : Option ℕ
  pub armed_is : armed ≡ is_some left
  pub call : Goes old (By old (λ g. Reads g (Caller 0) i.last left)) new

-- an interval goes on: its last timer is read; if that isn't armed and there is a next deadline, the
-- destination is looked at; and if that lives, the next timer is started
pub record GoesOn (answer : Result Bool NoMemory) (old : Seen) (i : Interval) (new : Seen) (j : Interval) : Type 0 where
  pub read : Seen
  pub armed : Bool
  pub reads : ReadsLast i armed old read
  pub goes : GoesWhere armed answer read i new j

-- the interval of this number goes on where it is of the wheel and is Running or Waiting; else nothing is
-- done; no other interval moves
pub record StepsOne (answer : Result Bool NoMemory) (w n : ℕ) (old : Seen) (is : List Interval) (new : Seen) (js : List Interval) : Type 0 where
  pub goes : (d : Interval) → IsTurnedBy w (slice_index_or is n d) → GoesOn answer old (slice_index_or is n d) new (slice_index_or js n d)
  pub passed : (d : Interval) → (IsTurnedBy w (slice_index_or is n d) → ⊥) → (answer ≡ Ok false) × (new ≡ old) × (js ≡ is)
  pub counted : length js ≡ length is
  pub others : (m : ℕ) (d : Interval) → m ≢ n → slice_index_or js m d ≡ slice_index_or is m d

-- 1 where a timer was started
abbrev pub one_if : Bool → ℕ
one_if true = 1
one_if false = 0

-- after some steps, the interval of this number makes its own
pub record StepsNext (w n armed : ℕ) (earlier : ℕ → Seen → List Interval → Type 0) (new : Seen) (js : List Interval) : Type 0 where
  pub so_far : ℕ
  pub between : Seen
  pub intervals : List Interval
  pub before : earlier so_far between intervals
  pub started : Bool
  pub step : StepsOne (Ok started) w n between intervals new js
  pub armed_is : armed ≡ so_far + one_if started

-- the first so many intervals make their steps, in order of number, and start so many timers
abbrev pub StepsTo : ℕ → ℕ → Seen → List Interval → ℕ → Seen → List Interval → Type 0
StepsTo w zero old is armed new js = (armed ≡ 0) × (new ≡ old) × (js ≡ is)
StepsTo w (suc n) old is armed new js = StepsNext w n armed (λ k b ks. StepsTo w n old is k b ks) new js

-- the intervals before one make their steps, and there is no memory for its own
pub record StepsSome (w : ℕ) (e : NoMemory) (old : Seen) (is : List Interval) (new : Seen) (js : List Interval) : Type 0 where
  pub number : ℕ
  pub low : number < length is
  pub so_far : ℕ
  pub between : Seen
  pub intervals : List Interval
  pub before : StepsTo w number old is so_far between intervals
  pub step : StepsOne (Err e) w number between intervals new js

-- all intervals make their steps in order of number, or, out of memory, only the first ones
abbrev pub StepsAll : ℕ → Result ℕ NoMemory → Seen → List Interval → Seen → List Interval → Type 0
StepsAll w (Ok armed) old is new js = StepsTo w (length is) old is armed new js
StepsAll w (Err e) old is new js = StepsSome w e old is new js
