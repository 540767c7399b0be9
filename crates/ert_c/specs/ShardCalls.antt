-- What C is told of a shard.

use Rattle.std.specs.Prelude.{◌≡◌, ◌≢◌, ◌⊎◌, [], ◌∷◌, ℕ, ◌+◌, ◌<◌, ◌≤◌, ℤ, Bool, true, length, count_by, Option, Some, None, Result, Err, IfOk, OnSome, ⊤}
use Rattle.std.specs.Option.{is_some}
use Rattle.ert_effects.specs.{Chains.{AdvancesWheel, Delivers}, ClockCalls.{TellsTime, TellsOffset, TellsSystemTime}, MailCalls.{Takes, Monitors, Demonitors, Notifies}, RestartCalls.Restarts, Sleeping.ProbesForNext, TimerCalls.Reads}
use Rattle.ert_effects.specs.{TimerCalls.{Cancels, Starts}, WheelCalls.TellsAlive, declared.answers.MonitorErr.MonitorErr, declared.answers.RestartErr.RestartErr, declared.answers.StartErr.StartErr}
use Rattle.ert_effects.specs.{declared.answers.StartErr.TheVariants.{Full, NoMemory}, declared.answers.RestartErr.TheVariants.Full as FullAgain, declared.answers.Taken.Taken}
use Rattle.ert_timers.specs.{Frees.{IsUsedUp, UsesFree}, NextDue.{NoneArmedBefore, IsNextHeld}, Expiring.TriesHeld, Passed.HasPassed, Searching.{HasOpenSlot, Searches}, Sleeping.IsFoundNext}
use Rattle.ert_c.specs.{ClockCalls.state_as, Through.{Through, TellsC, IfBelow, IsOutOfRange}, Told.{flag, start_of, timer_from_c, IsStartTold, IsFlag, IsGiven, IsDemonitored}, Waiting.IsRestarted, declared.clock_calls.ErtOffset.ErtOffset}
use Rattle.ert_c.specs.{declared.status.TheConstants.{OK, CLOSED, OPEN, NO_MEMORY, RANGE, NO_SHARD}, declared.timer_calls.ErtStart.ErtStart, declared.timer_calls.ErtTimer.ErtTimer, declared.turn_calls.ErtTurned.ErtTurned}
use Rattle.ert_c.specs.{declared.waiting_calls.ErtTurnedSome.ErtTurnedSome}
use Rattle.ert_defs.specs.{States.state, declared.entry.Actor.TheVariants.{Caller, Wheel}, declared.memory.NoMemory.NoMemory as OutOfMemory, declared.settings.OffsetState.OffsetState, declared.timer.Start.Start}
use Rattle.ert_defs.specs.{declared.timer.TimerRef.TimerRef}
use Rattle.ert_shard.specs.{Hubs.{Rest, GivesShard, IsAtHome}, Renewing.LetsGo, Shards.{Share, IsHome, Owned, ShardGoes, ShardSteps, ShardBy, ShardHasForgotten, ShardStayForgotten}, Sleeping.ShardDropsSettled, Turning.shard_expired}
use Rattle.ert_shard.specs.{Turning.{HasTurnedMost, IsMoreLeft, ShardTurns, TurnsUpTo, ShardExits}, declared.turns.Turn.Turn}

-- a hub gave a shard, and this one stands behind the shard's handle
pub record HasShard (processes : ℕ) (old : Rest) (status : ℤ) (hub : Option Rest) (shard : Option Owned) : Type 0 where
  pub left : Rest
  pub given : Owned
  pub hub_is : hub ≡ Some left
  pub shard_is : shard ≡ Some given
  pub gives : GivesShard old processes left given
  pub told : status ≡ OK

-- there was no memory for a shard that a hub gave, and the hub took it back: it is as it was, but that it remembers which
-- processes the wheel was for
pub record HasBack (old : Rest) (status : ℤ) (hub : Option Rest) (shard : Option Owned) : Type 0 where
  pub again : Rest
  pub hub_is : hub ≡ Some again
  pub same : again ≡ record old { homes = again.homes }
  pub shard_is : shard ≡ None
  pub told : status ≡ NO_MEMORY

-- no shard is given, and the hub is as it was
abbrev pub IsRefused : ℤ → Rest → ℤ → Option Rest → Option Owned → Type 0
IsRefused why old status hub shard = (status ≡ why) × (hub ≡ Some old) × (shard ≡ None)

-- a hub that has as much left gives it, or the timers of its wheels aren't known to be for the right processes, or they are
-- and there is no memory
abbrev pub GivesOrRefuses : ℕ → Rest → ℤ → Option Rest → Option Owned → Type 0
GivesOrRefuses processes old status hub shard = HasShard processes old status hub shard
    ⊎ ((IsAtHome old processes → ⊥) × IsRefused NO_SHARD old status hub shard)
    ⊎ (IsAtHome old processes × IsRefused NO_MEMORY old status hub shard) ⊎ HasBack old status hub shard

-- a hub gives the last scheduler and so many processes to a shard, if there are as many; else it is as it was
abbrev pub CutsShard : ℕ → Rest → ℤ → Option Rest → Option Owned → Type 0
CutsShard processes old status hub shard = IfBelow 0 old.left
    (IfBelow old.first processes (IsRefused RANGE old status hub shard) (GivesOrRefuses processes old status hub shard))
    (IsRefused NO_SHARD old status hub shard)

-- a shard is opened, or nothing has changed: neither what stands behind the one handle nor behind the other
abbrev pub OpensShard : ℕ → Option Rest → Option Owned → ℤ → Option Rest → Option Owned → Type 0
OpensShard processes hub (Some s) status left given = (status ≡ OPEN) × (left ≡ hub) × (given ≡ Some s)
OpensShard processes None None status left given = (status ≡ CLOSED) × (left ≡ None) × (given ≡ None)
OpensShard processes (Some old) None status left given = CutsShard processes old status left given

-- C is told which processes are of a shard, and nothing has changed
pub record TellsProcesses (status : ℤ) (from to : ℕ) (old new : Owned) : Type 0 where
  pub told : status ≡ OK
  pub from_is : from ≡ old.share.from
  pub to_is : to ≡ old.share.to
  pub unchanged : new ≡ old

-- a call for a process that has to be of a share
pub record IfHome (share : Share) (process : ℕ) (call refused : Type 0) : Type 0 where
  pub home : IsHome share process → call
  pub below : process < share.from → refused
  pub above : share.to ≤ process → refused

-- a call for a process of a shard, which is refused where the process isn't of it
abbrev pub AtHome : {A : Type 0} → ℕ → (A → Owned → Owned → Type 0) → (A → Type 0) → ℤ → Type 0 → Owned → Owned → Type 0
AtHome process call tells status kept old new = IfHome old.share process (TellsC call tells old new) (IsOutOfRange status kept old new)

-- such a call goes through a handle, and C finds the answer in a place of its own; else that place is as it was
abbrev pub AnswersAtHome : {A P : Type 0} → ℕ → (A → Owned → Owned → Type 0) → (A → P → ℤ → P → Type 0) → P → P
    → Option Owned → ℤ → Option Owned → Type 0
AnswersAtHome process call tells kept found old status new =
    Through (found ≡ kept) (AtHome process call (λ answer. tells answer kept status found) status (found ≡ kept)) old status new

-- a shard looks up monotonic time as its caller, and C is told it
pub record ShardReadsTime (status time : ℤ) (old new : Owned) : Type 0 where
  pub told : status ≡ OK
  pub steps : ShardSteps old (ShardBy old (λ g. TellsTime g (Caller (old.share.number + 1)) time)) new

-- a shard looks up system time as its caller, and C is told it
pub record ShardReadsSystemTime (status time : ℤ) (old new : Owned) : Type 0 where
  pub told : status ≡ OK
  pub steps : ShardSteps old (ShardBy old (λ g. TellsSystemTime g (Caller (old.share.number + 1)) time)) new

-- a shard looks up the time offset and its state as its caller, and C is told them
pub record ShardReadsOffset (status : ℤ) (offset : ErtOffset) (old new : Owned) : Type 0 where
  pub told : status ≡ OK
  pub offset_state : OffsetState
  pub state : offset.state ≡ state_as offset_state
  pub steps : ShardSteps old (ShardBy old (λ g. TellsOffset g (Caller (old.share.number + 1)) (offset.offset, offset_state))) new

-- a shard starts a timer on its wheel as its caller, with this answer, which is never out of memory; it is refused as full only
-- where the wheel has had 2^53 timers or holds no slot free afterwards, with looks round the wheel, and not where the slot at
-- which these begin can take a timer; and it takes no free slot but that of its timer. No row comes to the wheel of a timer
-- that was started before
pub record ShardStartsBy (start : Start) (answer : Result TimerRef StartErr) (old new : Owned) : Type 0 where
  pub goes : ShardGoes old (ShardBy old (λ g. Starts g (old.share.number + 1) old.share.number start answer)) new
  pub memory : answer ≢ Err NoMemory
  pub full : answer ≡ Err Full → IsUsedUp old.wheel new.wheel
  pub searched : answer ≡ Err Full → old.wheel.arms < 9007199254740992
      → ShardGoes old (ShardBy old (λ g. Searches g (old.share.number + 1) old.wheel new.wheel)) new
  pub ready : HasOpenSlot old.settings (state old.settings old.history) old.wheel → answer ≢ Err Full
  pub frees : UsesFree old.wheel new.wheel answer
  pub forgotten : ShardStayForgotten old new

-- C starts a timer on the wheel of a shard; where the process isn't of the shard, nothing has changed
abbrev pub ShardStarts : ErtStart → ErtTimer → ErtTimer → Option Owned → ℤ → Option Owned → Type 0
ShardStarts start = AnswersAtHome start.dest (ShardStartsBy (start_of start)) IsStartTold

-- a shard gives an armed timer a new deadline as its caller: the name of the next, or why there is none; where there is one
-- the shard's wheel holds no row of the old one. It is refused and takes a free slot as a start
pub record ShardRestartsBy (timer : TimerRef) (start : Start) (answer : Result TimerRef RestartErr) (old new : Owned) : Type 0 where
  pub goes : ShardGoes old (ShardBy old (λ g. Restarts g (old.share.number + 1) old.share.number timer start answer)) new
  pub forgotten : LetsGo timer answer new
  pub full : answer ≡ Err FullAgain → IsUsedUp old.wheel new.wheel
  pub frees : UsesFree old.wheel new.wheel answer

-- C gives a timer a new deadline; where the process isn't of the shard, nothing has changed
abbrev pub ShardRestarts : ErtStart → ErtTimer → ErtTimer → Option Owned → ℤ → Option Owned → Type 0
ShardRestarts start timer = AnswersAtHome start.dest (ShardRestartsBy (timer_from_c timer) (start_of start)) IsRestarted timer

-- a shard cancels a timer as its caller: what was left of it, where it was armed, and then its own wheel holds no row of it
pub record ShardCancelsBy (timer : TimerRef) (answer : Option ℕ) (old new : Owned) : Type 0 where
  pub steps : ShardSteps old (ShardBy old (λ g. Cancels g (Caller (old.share.number + 1)) timer answer)) new
  pub forgotten : OnSome answer (ShardHasForgotten new timer)

-- a shard reads a timer as its caller: what is left of it, where it is armed
abbrev pub ShardReadsBy : TimerRef → Option ℕ → Owned → Owned → Type 0
ShardReadsBy timer answer old new = ShardSteps old (ShardBy old (λ g. Reads g (Caller (old.share.number + 1)) timer answer)) new

-- a shard sees as its caller whether a process is alive
abbrev pub ShardTellsAliveBy : ℕ → Bool → Owned → Owned → Type 0
ShardTellsAliveBy process answer old new = ShardSteps old (ShardBy old (λ g. TellsAlive g (Caller (old.share.number + 1)) process answer)) new

-- C is told by a shard whether a process is alive; where there is no such one, nothing has changed
abbrev pub ShardTellsAlive : ℕ → ℕ → ℤ → ℕ → Owned → Owned → Type 0
ShardTellsAlive process kept status found old new = IfBelow process old.settings.processes
    (TellsC (ShardTellsAliveBy process) (λ answer. IsFlag answer status found) old new) (IsOutOfRange status (found ≡ kept) old new)

-- a shard lets a process of its own exit: whether it was alive, and then its wheel is swept
abbrev pub ShardExitsBy : ℕ → Bool → Owned → Owned → Type 0
ShardExitsBy process answer old new = ShardSteps old (λ way. ShardExits old.settings way old.share.number process answer) new

-- a shard takes the first message of a process as its caller, if there is one and the process is alive
abbrev pub ShardTakesBy : ℕ → Taken → Owned → Owned → Type 0
ShardTakesBy process answer old new = ShardSteps old (ShardBy old (λ g. Takes g (old.share.number + 1) process answer)) new

-- a shard makes a monitor of the time offset for a process: its number, or why there is none
abbrev pub ShardMonitorsBy : ℕ → Result ℕ MonitorErr → Owned → Owned → Type 0
ShardMonitorsBy process answer old new = ShardSteps old (ShardBy old (λ g. Monitors g (old.share.number + 1) process answer)) new

-- a shard removes a monitor of a process: whether it stood
abbrev pub ShardDemonitorsBy : ℕ → ℕ → Bool → Owned → Owned → Type 0
ShardDemonitorsBy process monitor answer old new = ShardSteps old (ShardBy old (λ g. Demonitors g (old.share.number + 1) process monitor answer)) new

-- C removes a monitor of a process of a shard; where the process isn't of the shard, nothing has changed
abbrev pub ShardDemonitors : ℕ → ℕ → Option Owned → ℤ → Option Owned → Type 0
ShardDemonitors process monitor old status new = Through ⊤ (AtHome process (ShardDemonitorsBy process monitor) (λ answer. IsDemonitored answer status) status ⊤) old status new

-- a shard has the monitors of a process told the offset: how many messages are put, or out of memory
abbrev pub ShardNotifiesBy : ℕ → Result ℕ OutOfMemory → Owned → Owned → Type 0
ShardNotifiesBy process answer old new = ShardSteps old (ShardBy old (λ g. Notifies g (old.share.number + 1) process answer)) new

-- a shard advances its wheel: to which millisecond and how many timers expired, or out of memory. Then each row of the
-- wheel is due later, and only timers of which it held a row were tried
pub record ShardAdvancesBy (answer : Result (ℕ × ℕ) OutOfMemory) (old new : Owned) : Type 0 where
  pub steps : ShardSteps old (λ way. AdvancesWheel old.settings way old.share.number answer) new
  pub passed : IfOk answer (λ advanced. HasPassed new.wheel advanced.0)
  pub held : IfOk answer (λ advanced. ShardGoes old (λ way. way (Wheel old.share.number ∷ []) (TriesHeld old.wheel advanced.0)) new)

-- a shard hands its expired timers over: how many were put and dropped, or out of memory
abbrev pub ShardDeliversBy : Result (ℕ × ℕ) OutOfMemory → Owned → Owned → Type 0
ShardDeliversBy answer old new = ShardSteps old (λ way. Delivers old.settings way old.share.number answer) new

-- a shard makes a turn: what it did, or out of memory. Then each row of its wheel is due later than the time of the advance
pub record ShardTurnsBy (answer : Result Turn OutOfMemory) (old new : Owned) : Type 0 where
  pub steps : ShardSteps old (λ way. ShardTurns old.settings way old.share answer) new
  pub passed : IfOk answer (λ turned. HasPassed new.wheel turned.to)

-- what a turn of a shard did, or out of memory
abbrev pub IsTurnTold : Result Turn OutOfMemory → ErtTurned → ℤ → ErtTurned → Type 0
IsTurnTold = IsGiven (λ t. record { to = t.to; served = t.served; expired = t.expired; put = t.put; dropped = t.dropped })

-- a shard makes a turn in which so many timers at most expire and are handed over: what it did and whether there is more,
-- or out of memory. There is more just where a row of its wheel is due by the time of the advance, the wheel hasn't come to
-- that time, or expired timers wait; then it has done as much as it may
pub record ShardTurnsSomeBy (most : ℕ) (answer : Result (Turn × Bool) OutOfMemory) (old new : Owned) : Type 0 where
  pub steps : ShardSteps old (λ way. TurnsUpTo old.settings way old.share most answer) new
  pub left : IfOk answer (λ done. IsMoreLeft new done.0.to done.1)
  pub done : IfOk answer (λ turned. turned.1 ≡ true → HasTurnedMost old.wheel new.wheel most turned.0)

-- what such a turn of a shard did, or out of memory
abbrev pub IsTurnSomeTold : Result (Turn × Bool) OutOfMemory → ErtTurnedSome → ℤ → ErtTurnedSome → Type 0
IsTurnSomeTold = IsGiven (λ p. record { to = p.0.to; served = p.0.served; expired = p.0.expired; put = p.0.put; dropped = p.0.dropped; more = flag p.1 })

-- what is told is how many rows the wheel of a shard holds, and nothing has changed
pub record ShardTellsHeld (answer : ℕ) (old new : Owned) : Type 0 where
  pub rows : answer ≡ count_by is_some old.wheel.keys
  pub unchanged : new ≡ old

-- what is told is how many expired timers of a shard wait, and nothing has changed
pub record ShardTellsExpired (answer : ℕ) (old new : Owned) : Type 0 where
  pub waiting : answer ≡ length (shard_expired old)
  pub unchanged : new ≡ old

-- what is told is how many messages wait in a mailbox of a shard, and nothing has changed
pub record ShardTellsMail (process answer : ℕ) (old new : Owned) : Type 0 where
  pub waiting : answer ≡ length ((state old.settings old.history).mails process).queue
  pub unchanged : new ≡ old

-- what is told is how early a row of the shard's wheel is due, or where a window begins: no armed timer of the wheel is due
-- before it. Slots were probed until a timer was armed, and the rows of the others have gone
pub record ShardLooksAhead (answer : Option ℕ) (old new : Owned) : Type 0 where
  pub makes : ShardSteps old (ShardBy old (λ g. ProbesForNext g old.share.number)) new
  pub held : IsNextHeld new.wheel answer
  pub armed : NoneArmedBefore (state new.settings new.history) new.share.number answer
  pub found : IsFoundNext (state new.settings new.history) old.wheel new.wheel answer
  pub time : new.wheel.passed ≡ old.wheel.passed

-- the rows of settled timers have gone from the wheel of a shard, and so many are told
pub record ShardDrops (answer : ℕ) (old new : Owned) : Type 0 where
  pub drops : ShardDropsSettled old new answer
  pub time : new.wheel.passed ≡ old.wheel.passed
