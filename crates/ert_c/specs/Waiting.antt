-- What a service does by the calls that give a timer a new deadline, tell how much waits, and hand over or take so many
-- messages at most, and how C is told the answers.

use Rattle.std.specs.Prelude.{◌≡◌, ℕ, ℤ, Bool, true, length, Result, Ok, Err, IfOk}
use Rattle.ert_defs.specs.{States.state, declared.memory.NoMemory.NoMemory as OutOfMemory, declared.timer.Start.Start, declared.timer.TimerRef.TimerRef}
use Rattle.ert_effects.specs.{declared.answers.Turned.Turned, RestartCalls.Restarts, declared.answers.RestartErr.RestartErr, declared.answers.RestartErr.TheVariants.{BadArg, NotArmed, Full}}
use Rattle.ert_world.specs.{Bounded.{HasDoneMost, IsMoreAt, TurnsSome}, Held.{HoldsSoManyRows, AreArmed}, Frees.{IsUsedUpAt, UsesFreeAt}, Restarts.{Forgets, HasNoDeadline, wheel_for}, Stepping.Stays, Worlds.{Seen, By, world_sched}}
use Rattle.ert_c.specs.{Calls.MakesCall, Told.{flag, timer_as, IsGiven}, declared.status.TheConstants.{OK, BAD_TIME, FULL, NO_TIMER}, declared.timer_calls.ErtTimer.ErtTimer, declared.waiting_calls.ErtTurnedSome.ErtTurnedSome}

-- caller 0 gives an armed timer a new deadline: the name of the next, or why there is none; where there is one its wheel holds
-- no row of the old one. It is refused as full, and takes a free slot, as a start
pub record RestartsBy (timer : TimerRef) (start : Start) (answer : Result TimerRef RestartErr) (old new : Seen) : Type 0 where
  pub makes : MakesCall (λ w. By w (λ g. Restarts g 0 (wheel_for g timer) timer start answer)) old new
  pub time : answer ≡ Err BadArg → HasNoDeadline old start
  pub forgotten : Forgets timer answer new
  pub full : answer ≡ Err Full → IsUsedUpAt old new (wheel_for old.settings timer)
  pub frees : UsesFreeAt old new (wheel_for old.settings timer) answer

-- the timer that was started in its place, or why none was
abbrev pub IsRestarted : Result TimerRef RestartErr → ErtTimer → ℤ → ErtTimer → Type 0
IsRestarted (Ok next) old status new = (status ≡ OK) × (new ≡ timer_as next)
IsRestarted (Err BadArg) old status new = (status ≡ BAD_TIME) × (new ≡ old)
IsRestarted (Err NotArmed) old status new = (status ≡ NO_TIMER) × (new ≡ old)
IsRestarted (Err Full) old status new = (status ≡ FULL) × (new ≡ old)

-- a number that is always told
abbrev pub IsCount : ℕ → ℤ → ℕ → Type 0
IsCount answer status new = (status ≡ OK) × (new ≡ answer)

-- what is told is how many rows a wheel holds: those of the armed timers where no seat was given out; nothing has changed
pub record TellsHeld (sched answer : ℕ) (old new : Seen) : Type 0 where
  pub rows : HoldsSoManyRows old sched answer
  pub armed : AreArmed old sched answer
  pub unchanged : new ≡ old

-- what is told is how many expired timers wait at a scheduler; nothing has changed
pub record TellsExpired (sched answer : ℕ) (old new : Seen) : Type 0 where
  pub waiting : answer ≡ length (world_sched old sched).expired
  pub unchanged : new ≡ old

-- what is told is how many messages wait in a mailbox; nothing has changed
pub record TellsMail (process answer : ℕ) (old new : Seen) : Type 0 where
  pub waiting : answer ≡ length ((state old.settings old.history).mails process).queue
  pub unchanged : new ≡ old

-- a scheduler makes a turn in which so many timers at most expire and are handed over: what it did and whether there is
-- more, or out of memory. There is more just where a row of its wheel is due by the time of the advance, the wheel hasn't
-- come to that time, or expired timers wait; then it has done as much as it may
pub record TurnsSomeBy (sched most : ℕ) (answer : Result (Turned × Bool) OutOfMemory) (old new : Seen) : Type 0 where
  pub makes : MakesCall (λ w way. TurnsSome w.settings way sched most answer) old new
  pub stays : Stays old new
  pub left : IfOk answer (λ done. IsMoreAt new sched done.0.to done.1)
  pub done : IfOk answer (λ turned. turned.1 ≡ true → HasDoneMost old new sched most turned.0)

-- what such a turn did, for C
abbrev pub turned_some_as : Turned × Bool → ErtTurnedSome
turned_some_as p = record { to = p.0.to; served = p.0.served; expired = p.0.expired; put = p.0.put; dropped = p.0.dropped; more = flag p.1 }

-- what such a turn did, or out of memory
abbrev pub IsTurnedSome : Result (Turned × Bool) OutOfMemory → ErtTurnedSome → ℤ → ErtTurnedSome → Type 0
IsTurnedSome = IsGiven turned_some_as
