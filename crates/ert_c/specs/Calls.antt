-- What a service does by the calls on timers, mailboxes and turns.

use Rattle.std.specs.Prelude.{◌≡◌, ◌≢◌, ℕ, ◌≤◌, ℤ, Bool, Option, Result, Err, IfOk, MatchOption, OnSome, ⊤}
use Rattle.ert_effects.specs.{Chains.{Exits, Serves, AdvancesWheel, Delivers, Turns}, MailCalls.{Takes, Monitors, Demonitors, Notifies}, RequestCalls.{Asks, inbox_for}, RoomCalls.TellsRoom, Sleeping.ProbesForNext, TimerCalls.Reads}
use Rattle.ert_effects.specs.{TimerCalls.{Cancels, Starts}, Ways.{Growth, Way}, WheelCalls.TellsAlive, declared.answers.MonitorErr.MonitorErr, declared.answers.Room.Room, declared.answers.StartErr.StartErr}
use Rattle.ert_effects.specs.{declared.answers.StartErr.TheVariants.{BadArg, Full, NoMemory}, declared.answers.Taken.Taken, declared.answers.Turned.Turned}
use Rattle.ert_defs.specs.{States.state, declared.entry.Actor.TheVariants.Caller, declared.mail.Request.Request, declared.memory.NoMemory.NoMemory as OutOfMemory, declared.timer.Start.Start, declared.timer.TimerRef.TimerRef}
use Rattle.ert_world.specs.{Frees.{IsUsedUpAt, HasOpenSlotAt, SearchesAt, UsesFreeAt}, Restarts.HasNoDeadline, Sleeping.{DropsSettledAt, HasSameTimeAt, IsFoundAt}, Stepping.Stays, Tried.TriesHeldAt, Worlds.{Seen, Goes, By, HasForgotten}}
use Rattle.ert_world.specs.{Worlds.{HasPassedAt, IsNextHeldAt, IsNearestAt, StayForgotten}}
use Rattle.ert_timers.specs.NextDue.{NoneArmedBefore}
use Rattle.ert_c.specs.{Through.{Through, TellsC, IfBelow, IsOutOfRange, IsRefusedAs}, Told.{start_of, request_kind_at, request_of, IsStartTold, IsRoomTold, IsToldDone}, declared.mail_calls.ErtRequest.ErtRequest}
use Rattle.ert_c.specs.{declared.status.TheConstants.BAD_KIND, declared.timer_calls.ErtStart.ErtStart, declared.timer_calls.ErtTimer.ErtTimer}

-- a service makes a call that isn't one on the clock
abbrev pub MakesCall : (Seen → Way → Growth) → Seen → Seen → Type 0
MakesCall call old new = Goes old (call old) new

-- a call at a scheduler, which is refused where there is no such one
abbrev pub AtSched : {A : Type 0} → ℕ → (A → Seen → Seen → Type 0) → (A → Type 0) → ℤ → Type 0 → Seen → Seen → Type 0
AtSched n call tells status kept old new = IfBelow n old.settings.schedulers (TellsC call tells old new) (IsOutOfRange status kept old new)

-- a call for a process, which is refused where there is no such one
abbrev pub AtProcess : {A : Type 0} → ℕ → (A → Seen → Seen → Type 0) → (A → Type 0) → ℤ → Type 0 → Seen → Seen → Type 0
AtProcess n call tells status kept old new = IfBelow n old.settings.processes (TellsC call tells old new) (IsOutOfRange status kept old new)

-- a call at a scheduler goes through a handle, and C finds the answer in a place of its own; else that place is
-- as it was
abbrev pub AnswersAtSched : {A P : Type 0} → ℕ → (A → Seen → Seen → Type 0) → (A → P → ℤ → P → Type 0) → P → P
    → Option Seen → ℤ → Option Seen → Type 0
AnswersAtSched n call tells kept found old status new =
    Through (found ≡ kept) (AtSched n call (λ answer. tells answer kept status found) status (found ≡ kept)) old status new

-- and so does a call for a process
abbrev pub AnswersAtProcess : {A P : Type 0} → ℕ → (A → Seen → Seen → Type 0) → (A → P → ℤ → P → Type 0) → P → P
    → Option Seen → ℤ → Option Seen → Type 0
AnswersAtProcess n call tells kept found old status new =
    Through (found ≡ kept) (AtProcess n call (λ answer. tells answer kept status found) status (found ≡ kept)) old status new

-- caller 0 starts a timer, with this answer, which is never out of memory, and tells that it has no deadline only where it has
-- none. No row comes to a wheel of a timer that was started before. It is refused as full only where the wheel has had 2^53
-- timers or holds no slot free afterwards, with looks round the wheel, and not where a look at the room has just found some; and
-- it takes no free slot but that of its timer
pub record StartsBy (wheel : ℕ) (start : Start) (answer : Result TimerRef StartErr) (old new : Seen) : Type 0 where
  pub makes : MakesCall (λ w. By w (λ g. Starts g 0 wheel start answer)) old new
  pub time : answer ≡ Err BadArg → HasNoDeadline old start
  pub memory : answer ≢ Err NoMemory
  pub forgotten : StayForgotten old new
  pub full : answer ≡ Err Full → IsUsedUpAt old new wheel
  pub searched : answer ≡ Err Full → SearchesAt old new wheel
  pub ready : HasOpenSlotAt old wheel → answer ≢ Err Full
  pub frees : UsesFreeAt old new wheel answer

-- C starts a timer on the wheel of a scheduler, for a process; where there is no such scheduler or process,
-- nothing has changed
abbrev pub StartsTimer : ℕ → ErtStart → ErtTimer → ErtTimer → Option Seen → ℤ → Option Seen → Type 0
StartsTimer sched start kept found old status new = Through (found ≡ kept) (λ was now. IfBelow sched was.settings.schedulers
    (AtProcess start.dest (StartsBy sched (start_of start)) (λ answer. IsStartTold answer kept status found) status (found ≡ kept) was now)
    (IsOutOfRange status (found ≡ kept) was now)) old status new

-- caller 0 looks how much room the wheel of a scheduler has; where it has some, the next looks begin at a slot that can take
-- a timer
pub record TellsRoomBy (sched : ℕ) (answer : Room) (old new : Seen) : Type 0 where
  pub makes : MakesCall (λ w. By w (λ g. TellsRoom g 0 sched answer)) old new
  pub ready : 1 ≤ answer.free → HasOpenSlotAt new sched

-- C asks how much room the wheel of a scheduler has; where there is no such one, what C passed is as it was
abbrev pub AsksRoom : ℕ → Type 0 → ℕ → ℕ → Option Seen → ℤ → Option Seen → Type 0
AsksRoom sched kept room ready old status new =
    Through kept (AtSched sched (TellsRoomBy sched) (λ answer. IsRoomTold answer status room ready) status kept) old status new

-- caller 0 cancels a timer: what was left of it, where it was armed, and then its wheel holds no row of it
pub record CancelsBy (timer : TimerRef) (answer : Option ℕ) (old new : Seen) : Type 0 where
  pub makes : MakesCall (λ w. By w (λ g. Cancels g (Caller 0) timer answer)) old new
  pub forgotten : OnSome answer (HasForgotten new timer)

-- caller 0 reads a timer: what is left of it, where it is armed
abbrev pub ReadsBy : TimerRef → Option ℕ → Seen → Seen → Type 0
ReadsBy timer answer = MakesCall (λ w. By w (λ g. Reads g (Caller 0) timer answer))

-- caller 0 sees whether a process is alive
abbrev pub TellsAliveBy : ℕ → Bool → Seen → Seen → Type 0
TellsAliveBy process answer = MakesCall (λ w. By w (λ g. TellsAlive g (Caller 0) process answer))

-- caller 0 lets a process exit: whether it was alive, and then every wheel is swept, and forgets what was cancelled
pub record ExitsBy (process : ℕ) (answer : Bool) (old new : Seen) : Type 0 where
  pub makes : MakesCall (λ w way. Exits w.settings way 0 process answer) old new
  pub stays : Stays old new

-- caller 0 puts a request into the inbox of its scheduler, or there is no memory
abbrev pub AsksBy : Request → Result (Unit {0}) OutOfMemory → Seen → Seen → Type 0
AsksBy request answer = MakesCall (λ w. By w (λ g. Asks g 0 (inbox_for g request) request answer))

-- C puts a request; where no request has its kind, or there is no process to reply to, nothing has changed
abbrev pub PutsRequest : ErtRequest → Option Seen → ℤ → Option Seen → Type 0
PutsRequest request old status new = Through ⊤ (λ was now. MatchOption (request_kind_at request.kind) (IsRefusedAs BAD_KIND status was now)
    (λ kind. AtProcess request.reply_to (AsksBy (request_of request kind)) (λ answer. IsToldDone answer status) status ⊤ was now)) old status new

-- caller 0 takes the first message of a process, if there is one and the process is alive
abbrev pub TakesBy : ℕ → Taken → Seen → Seen → Type 0
TakesBy process answer = MakesCall (λ w. By w (λ g. Takes g 0 process answer))

-- caller 0 makes a monitor of the time offset for a process: its number, or why there is none
abbrev pub MonitorsBy : ℕ → Result ℕ MonitorErr → Seen → Seen → Type 0
MonitorsBy process answer = MakesCall (λ w. By w (λ g. Monitors g 0 process answer))

-- caller 0 removes a monitor of a process: whether it stood
abbrev pub DemonitorsBy : ℕ → ℕ → Bool → Seen → Seen → Type 0
DemonitorsBy process monitor answer = MakesCall (λ w. By w (λ g. Demonitors g 0 process monitor answer))

-- caller 0 has the monitors of a process told the offset: how many messages are put, or out of memory
abbrev pub NotifiesBy : ℕ → Result ℕ OutOfMemory → Seen → Seen → Type 0
NotifiesBy process answer = MakesCall (λ w. By w (λ g. Notifies g 0 process answer))

-- a scheduler answers a request: whether there was one, or out of memory. Its wheels forget what it cancelled
pub record ServesBy (sched : ℕ) (answer : Result Bool OutOfMemory) (old new : Seen) : Type 0 where
  pub makes : MakesCall (λ w way. Serves w.settings way sched answer) old new
  pub stays : Stays old new

-- a scheduler advances its wheel: to which millisecond and how many timers expired, or out of memory. Then each row
-- of the wheel is due later, and only timers of which it held a row were tried
pub record AdvancesBy (sched : ℕ) (answer : Result (ℕ × ℕ) OutOfMemory) (old new : Seen) : Type 0 where
  pub makes : MakesCall (λ w way. AdvancesWheel w.settings way sched answer) old new
  pub stays : Stays old new
  pub passed : IfOk answer (λ advanced. HasPassedAt new sched advanced.0)
  pub held : IfOk answer (λ advanced. TriesHeldAt old new sched advanced.0)

-- a scheduler hands its expired timers over: how many were put and dropped, or out of memory. No row comes to a wheel
pub record DeliversBy (sched : ℕ) (answer : Result (ℕ × ℕ) OutOfMemory) (old new : Seen) : Type 0 where
  pub makes : MakesCall (λ w way. Delivers w.settings way sched answer) old new
  pub stays : Stays old new

-- a scheduler makes a turn: what it did, or out of memory. The wheels forget what it cancelled, and each row of its
-- own is due later than the time of the advance
pub record TurnsBy (sched : ℕ) (answer : Result Turned OutOfMemory) (old new : Seen) : Type 0 where
  pub makes : MakesCall (λ w way. Turns w.settings way sched answer) old new
  pub stays : Stays old new
  pub passed : IfOk answer (λ turned. HasPassedAt new sched turned.to)

-- what is told is how early a row of the wheel is due, or where a window begins: no armed timer is due before it. Slots were probed until a timer was armed, and the rows of the others have gone
pub record LooksAheadForC (sched : ℕ) (answer : Option ℕ) (old new : Seen) : Type 0 where
  pub makes : MakesCall (λ w. By w (λ g. ProbesForNext g sched)) old new
  pub stays : Stays old new
  pub held : IsNextHeldAt new sched answer
  pub armed : NoneArmedBefore (state new.settings new.history) sched answer
  pub nearest : IsNearestAt new sched answer
  pub found : IsFoundAt old new sched answer
  pub time : HasSameTimeAt old new sched

-- the rows of settled timers have gone from a wheel, and so many are told
pub record DropsForC (sched answer : ℕ) (old new : Seen) : Type 0 where
  pub drops : DropsSettledAt old new sched answer
  pub stays : Stays old new
  pub time : HasSameTimeAt old new sched
