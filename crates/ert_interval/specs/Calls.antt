-- What the calls on intervals answer, and how they move the intervals.

use Rattle.std.specs.Prelude.{◌≡◌, ◌≢◌, ◌⊎◌, ◌↔◌, ℕ, ◌+◌, ◌<◌, ◌≤◌, ℤ, ◌-ℤ◌, Bool, true, false, List, [], ◌∷◌, ◌++◌, length, slice_index_or, Option, Some, None, Result, Ok, Err}
use Rattle.ert_effects.specs.{TimerCalls.{Starts, Cancels, Rests, Round, IsInRound}, declared.answers.StartErr.TheVariants.Full as WheelIsFull}
use Rattle.ert_defs.specs.{Milliseconds.{natural, down, deadline_at}, States.{State, state}, Timers.{is_taken, timer_at}, declared.entry.Actor.TheVariants.Caller, declared.entry.Entry.Entry, declared.entry.Event.Event}
use Rattle.ert_defs.specs.{declared.entry.Event.TheVariants.{Look, Arm, Probe, Peek, Mark}, declared.memory.NoMemory.NoMemory as OutOfMemory, declared.settings.Settings.Settings, declared.timer.Status.TheVariants.Armed}
use Rattle.ert_defs.specs.{declared.timer.TimerRef.TimerRef}
use Rattle.ert_interval.specs.{Deadlines.{base, start_at}, Intervals.{IsOpen, CannotGoOn}, declared.interval.Interval.Interval, declared.interval.IntervalState.IntervalState, declared.interval.IntervalState.TheVariants.{Running, Waiting}}
use Rattle.ert_interval.specs.{declared.interval.IntervalState.TheVariants.{Stopped, Ended}, declared.intervals.IntervalErr.IntervalErr, declared.intervals.IntervalErr.TheVariants.{BadArg, Full, NoMemory}}
use Rattle.ert_world.specs.Worlds.{Seen, Goes, By}

-- whether an entry settles no timer, and lets no process exit
abbrev pub is_still : Event → Bool
is_still (Look now) = true
is_still (Peek timer left) = true
is_still (Probe wheel slot found) = true
is_still (Arm timer start) = true
is_still (Mark process false was) = true
is_still _ = false

-- none of these entries settles a timer, or lets a process exit
abbrev pub AreStill : List Entry → Type 0
AreStill [] = Unit {0}
AreStill (e ∷ es) = (is_still e.event ≡ true) × AreStill es

-- a world's history grows by entries that settle no timer
pub record Still (old new : Seen) : Type 0 where
  pub piece : List Entry
  pub grown : new.history ≡ old.history ++ piece
  pub still : AreStill piece
  pub settings : new.settings ≡ old.settings
  pub next : new.next ≡ old.next

-- what was asked for stays
pub record AsksSame (old new : Interval) : Type 0 where
  pub wheel : new.wheel ≡ old.wheel
  pub first : new.first ≡ old.first
  pub period : new.period ≡ old.period
  pub dest : new.dest ≡ old.dest
  pub msg : new.msg ≡ old.msg

-- nothing of an interval has moved
pub record Unmoved (old new : Interval) : Type 0 where
  pub same : AsksSame old new
  pub state : new.state ≡ old.state
  pub last : new.last ≡ old.last
  pub deadline : new.deadline ≡ old.deadline
  pub firings : new.firings.items ≡ old.firings.items

-- each slot of a wheel that a start looks at is taken, or rests at the time; or the wheel has had 2^53 timers
abbrev pub IsFull : Settings → State → ℕ → Type 0
IsFull g s w =
    ((round : Round g.slots g.looks) × ((k : ℕ) → IsInRound round k → (is_taken (s.status (timer_at w k (s.last w k))) ≡ true) ⊎ Rests s (natural (down g s.clock.now)) w k))
    ⊎ (length (s.rows w) ≡ 9007199254740992)

-- the state of an interval after a turn of its wheel that went on with it
abbrev pub EndsAs : Settings → State → Interval → IntervalState → Type 0
EndsAs g s i Running = s.status i.last ≡ Some Armed
EndsAs g s i Waiting = IsFull g s i.wheel × (s.exited i.dest ≡ false) × (i.deadline + i.period ≤ 8796093022207)
EndsAs g s i Ended = (s.status i.last ≢ Some Armed) × CannotGoOn s i
EndsAs g s i Stopped = ⊥

-- one timer more was started, or none
abbrev pub Fires : Bool → Interval → Interval → Type 0
Fires true old new = (r : TimerRef) × (new.firings.items ≡ old.firings.items ++ r ∷ [])
Fires false old new = new.firings.items ≡ old.firings.items

-- a turn has gone on with an interval
pub record Passed (w : Seen) (old new : Interval) (armed : Bool) : Type 0 where
  pub same : AsksSame old new
  pub fires : Fires armed old new
  pub ends : EndsAs w.settings (state w.settings w.history) new new.state

-- a turn has gone on with an interval, or, out of memory, has left it as it was
abbrev pub PassedBy : Result Bool OutOfMemory → Seen → Interval → Interval → Type 0
PassedBy (Ok armed) w old new = Passed w old new armed
PassedBy (Err e) w old new = Unmoved old new

-- the last timer of an interval is the one before, or one that was never armed
abbrev pub IsNewOrSame : State → Interval → Interval → Type 0
IsNewOrSame s old new = (new.last ≡ old.last) ⊎ (s.status new.last ≡ None)

-- a turn of this wheel goes on with an interval
abbrev pub IsTurnedBy : ℕ → Interval → Type 0
IsTurnedBy w i = (i.wheel ≡ w) × IsOpen i.state

-- how many timers the intervals have
abbrev pub timers : List Interval → ℕ
timers [] = 0
timers (i ∷ is) = length i.firings.items + timers is

-- one timer more, if an interval started one
abbrev pub CountsTimers : Result Bool OutOfMemory → List Interval → List Interval → Type 0
CountsTimers (Ok true) is js = timers js ≡ timers is + 1
CountsTimers (Ok false) is js = timers js ≡ timers is
CountsTimers (Err e) is js = timers js ≡ timers is

-- a turn has gone once through the intervals of its wheel, and started so many timers
pub record PassesAll (w : ℕ) (new : Seen) (is js : List Interval) (armed : ℕ) : Type 0 where
  pub counted : length js ≡ length is
  pub started : timers js ≡ timers is + armed
  pub passed : (n : ℕ) (d : Interval) → n < length is → IsTurnedBy w (slice_index_or is n d)
      → (b : Bool) × Passed new (slice_index_or is n d) (slice_index_or js n d) b
  pub others : (n : ℕ) (d : Interval) → n < length is → (IsTurnedBy w (slice_index_or is n d) → ⊥) → slice_index_or js n d ≡ slice_index_or is n d

-- it has gone on with one interval, if that is of its wheel
pub record PassesOne (answer : Result Bool OutOfMemory) (n w : ℕ) (new : Seen) (is js : List Interval) : Type 0 where
  pub counted : length js ≡ length is
  pub one : (d : Interval) → IsTurnedBy w (slice_index_or is n d) → PassedBy answer new (slice_index_or is n d) (slice_index_or js n d)
  pub other : (d : Interval) → (IsTurnedBy w (slice_index_or is n d) → ⊥) → (answer ≡ Ok false) × (slice_index_or js n d ≡ slice_index_or is n d)
  pub others : (m : ℕ) (d : Interval) → m ≢ n → slice_index_or js m d ≡ slice_index_or is m d

-- or only through some, because memory ran out
pub record PassesSome (w : ℕ) (new : Seen) (is js : List Interval) : Type 0 where
  pub counted : length js ≡ length is
  pub passed : (n : ℕ) (d : Interval) → n < length is → IsTurnedBy w (slice_index_or is n d)
      → Unmoved (slice_index_or is n d) (slice_index_or js n d)
      ⊎ ((b : Bool) × Passed new (slice_index_or is n d) (slice_index_or js n d) b)
  pub others : (n : ℕ) (d : Interval) → n < length is → (IsTurnedBy w (slice_index_or is n d) → ⊥) → slice_index_or js n d ≡ slice_index_or is n d

-- a turn has gone once through the intervals of its wheel, or only through some because memory ran out
abbrev pub PassesBy : Result ℕ OutOfMemory → ℕ → Seen → List Interval → List Interval → Type 0
PassesBy (Ok armed) w new is js = PassesAll w new is js armed
PassesBy (Err e) w new is js = PassesSome w new is js

-- an interval has just been made, with one timer
pub record IsJustMade (w : ℕ) (time : ℤ) (each to what : ℕ) (r : TimerRef) (i : Interval) : Type 0 where
  pub wheel : i.wheel ≡ w
  pub first : i.first ≡ time
  pub period : i.period ≡ each
  pub dest : i.dest ≡ to
  pub msg : i.msg ≡ what
  pub state : i.state ≡ Running
  pub last : i.last ≡ r
  pub firings : i.firings.items ≡ r ∷ []

-- an interval's arguments are refused
abbrev pub HasBadArguments : Settings → ℤ → ℕ → Type 0
HasBadArguments g first period = (period ≡ 0) ⊎ (deadline_at (first -ℤ base g) ≡ None)

-- `every` has made an interval
pub record HasMade (wheel : ℕ) (first : ℤ) (period dest msg n : ℕ) (old : Seen) (is : List Interval) (new : Seen) (js : List Interval) : Type 0 where
  pub timer : TimerRef
  pub call : Goes old (By old (λ g. Starts g 0 wheel (start_at first dest msg) (Ok timer))) new
  pub interval : Interval
  pub made : IsJustMade wheel first period dest msg timer interval
  pub last : js ≡ is ++ interval ∷ []
  pub number : n ≡ length is

-- `every`
abbrev pub Every : ℕ → ℤ → ℕ → ℕ → ℕ → Seen → List Interval → Result ℕ IntervalErr → Seen → List Interval → Type 0
Every wheel first period dest msg old is (Ok n) new js =
    (HasBadArguments old.settings first period → ⊥) × HasMade wheel first period dest msg n old is new js
Every wheel first period dest msg old is (Err BadArg) new js = HasBadArguments old.settings first period × (new ≡ old) × (js ≡ is)
Every wheel first period dest msg old is (Err Full) new js =
    (HasBadArguments old.settings first period → ⊥)
    × Goes old (By old (λ g. Starts g 0 wheel (start_at first dest msg) (Err WheelIsFull))) new × (js ≡ is)
Every wheel first period dest msg old is (Err NoMemory) new js = (HasBadArguments old.settings first period → ⊥) × (new ≡ old) × (js ≡ is)

-- `stop`, of one interval that is Running or Waiting
pub record StopsOpen (old : Seen) (i : Interval) (left : Option ℕ) (new : Seen) (j : Interval) : Type 0 where
  pub call : Goes old (By old (λ g. Cancels g (Caller 0) i.last left)) new
  pub same : AsksSame i j
  pub firings : j.firings.items ≡ i.firings.items
  pub state : j.state ≡ Stopped

-- `stop` by the state of the interval: where it is neither Running nor Waiting, it stays as it is
abbrev pub StopsIn : IntervalState → Seen → Interval → Option ℕ → Seen → Interval → Type 0
StopsIn Running old i left new j = StopsOpen old i left new j
StopsIn Waiting old i left new j = StopsOpen old i left new j
StopsIn Stopped old i left new j = (left ≡ None) × (new ≡ old) × (j ≡ i)
StopsIn Ended old i left new j = (left ≡ None) × (new ≡ old) × (j ≡ i)

-- nothing is left exactly where the interval has no armed timer
abbrev pub NoneWhere : State → Interval → Option ℕ → Type 0
NoneWhere s i left = (left ≡ None) ↔ (s.status i.last ≢ Some Armed)

-- `stop` of one interval: something is left exactly where its last timer was armed
pub record StopsOne (old : Seen) (i : Interval) (left : Option ℕ) (new : Seen) (j : Interval) : Type 0 where
  pub stops : StopsIn i.state old i left new j
  pub none : NoneWhere (state old.settings old.history) i left

-- `stop`: no other interval moves; nothing is left where there is no such interval
pub record Stops (n : ℕ) (old : Seen) (is : List Interval) (left : Option ℕ) (new : Seen) (js : List Interval) : Type 0 where
  pub counted : length js ≡ length is
  pub one : (d : Interval) → n < length is → StopsOne old (slice_index_or is n d) left new (slice_index_or js n d)
  pub past : length is ≤ n → (left ≡ None) × (new ≡ old)
  pub others : (m : ℕ) (d : Interval) → m ≢ n → slice_index_or js m d ≡ slice_index_or is m d

-- the state of an interval, None exactly where no such interval was made
abbrev pub StateIs : List Interval → ℕ → Option IntervalState → Type 0
StateIs is n None = length is ≤ n
StateIs is n (Some state) = (n < length is) × ((d : Interval) → (slice_index_or is n d).state ≡ state)

-- its timers, none where no such interval was made
pub record FiringsAre (is : List Interval) (n : ℕ) (firings : List TimerRef) : Type 0 where
  pub made : (d : Interval) → n < length is → firings ≡ (slice_index_or is n d).firings.items
  pub past : length is ≤ n → firings ≡ []
