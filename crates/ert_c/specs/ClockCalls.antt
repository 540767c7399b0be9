-- What C is told of the clock.

use Rattle.std.specs.Prelude.{◌≡◌, ℕ, ℤ, ◌+ℤ◌, pos, Bool, not, nat_eq, Option, Some, None, Result, Ok, Err}
use Rattle.ert_effects.specs.ClockCalls.{Ticks, Finalizes, TellsTime, TellsOffset, TellsSystemTime}
use Rattle.ert_clock.specs.{Ticks.{act_of, Gives, ClockFinalizesFrom}, declared.clock.ClockErr.ClockErr, declared.clock.ClockErr.TheVariants.{BadReading, OffsetWide}, declared.clock.Moved.Moved}
use Rattle.ert_defs.specs.declared.{entry.Actor.TheVariants.Caller, settings.OffsetState.OffsetState, settings.OffsetState.TheVariants.{Preliminary, Final, Volatile}, settings.Reading.Reading}
use Rattle.ert_world.specs.Worlds.{Seen, Goes, GoesOnClock, By}
use Rattle.ert_c.specs.declared.{clock_calls.ErtMoved.ErtMoved, clock_calls.ErtOffset.ErtOffset, status.TheConstants.{OK, BAD_READING, OFFSET_WIDE}}

-- a flag of C is on where it isn't 0
abbrev pub is_on : ℕ → Bool
is_on flag = not (nat_eq flag 0)

-- the number of a state of the offset
abbrev pub state_as : OffsetState → ℕ
state_as Preliminary = 0
state_as Final = 1
state_as Volatile = 2

-- what C finds in its struct after a tick to a time, with the new offset where it moved
abbrev pub moved_by : ℤ → Option ℤ → ErtMoved
moved_by now None = record { now = now; shift = pos 0; shifted = 0 }
moved_by now (Some offset) = record { now = now; shift = offset; shifted = 1 }

-- what C finds in its struct after a tick with this answer
abbrev pub moved_as : Moved → ErtMoved
moved_as m = moved_by m.now m.shift

-- the answer of a tick, as C is told it; where it is refused its struct is as it was
abbrev pub IsMoved : Result Moved ClockErr → ErtMoved → ℤ → ErtMoved → Type 0
IsMoved (Ok m) old status new = (status ≡ OK) × (new ≡ moved_as m)
IsMoved (Err BadReading) old status new = (status ≡ BAD_READING) × (new ≡ old)
IsMoved (Err (OffsetWide value)) old status new = (status ≡ OFFSET_WIDE) × (new ≡ old)

-- and that of a finalization, with the state before it
abbrev pub IsFinalized : Result (OffsetState × Moved) ClockErr → ℕ → ErtMoved → ℤ → ℕ → ErtMoved → Type 0
IsFinalized (Ok p) b old status before new = (status ≡ OK) × (before ≡ state_as p.0) × (new ≡ moved_as p.1)
IsFinalized (Err BadReading) b old status before new = (status ≡ BAD_READING) × (before ≡ b) × (new ≡ old)
IsFinalized (Err (OffsetWide value)) b old status before new = (status ≡ OFFSET_WIDE) × (before ≡ b) × (new ≡ old)

-- a service makes a tick
pub record TicksBy (r : Reading) (force : Bool) (answer : Result Moved ClockErr) (old new : Seen) : Type 0 where
  pub gives : Gives old.clock r (act_of force) answer new.clock
  pub goes : GoesOnClock old (By old (λ g. Ticks g 0 r force answer)) new

-- a service makes a finalization
pub record FinalizesBy (r : Reading) (answer : Result (OffsetState × Moved) ClockErr) (old new : Seen) : Type 0 where
  pub gives : ClockFinalizesFrom old.clock.face.state old.clock r answer new.clock
  pub goes : GoesOnClock old (By old (λ g. Finalizes g 0 r answer)) new

-- C is told monotonic time, as the clock of a service shows it
pub record ReadsTime (status time : ℤ) (old new : Seen) : Type 0 where
  pub told : status ≡ OK
  pub value : time ≡ old.clock.face.time
  pub goes : Goes old (By old (λ g. TellsTime g (Caller 0) time)) new

-- C is told system time: the sum of the time and the offset that the clock shows
pub record ReadsSystemTime (status time : ℤ) (old new : Seen) : Type 0 where
  pub told : status ≡ OK
  pub value : time ≡ (old.clock.face.time +ℤ old.clock.face.offset)
  pub goes : Goes old (By old (λ g. TellsSystemTime g (Caller 0) time)) new

-- C is told the time offset and its state, as the clock shows them
pub record ReadsOffset (status : ℤ) (offset : ErtOffset) (old new : Seen) : Type 0 where
  pub told : status ≡ OK
  pub value : offset.offset ≡ old.clock.face.offset
  pub state : offset.state ≡ state_as old.clock.face.state
  pub goes : Goes old (By old (λ g. TellsOffset g (Caller 0) (offset.offset, old.clock.face.state))) new
