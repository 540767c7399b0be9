-- What C is told of seats.

use Rattle.std.specs.Prelude.{◌≡◌, ◌⊎◌, ℕ, ◌<◌, ◌≤◌, ℤ, Bool, Option, Some, None}
use Rattle.ert_effects.specs.{ClockCalls.{TellsTime, TellsOffset, TellsSystemTime}, TimerCalls.{Reads, Cancels}, WheelCalls.TellsAlive}
use Rattle.ert_c.specs.{ClockCalls.state_as, Through.{TellsC, IfBelow, IsOutOfRange}, Told.IsFlag, declared.clock_calls.ErtOffset.ErtOffset, declared.status.TheConstants.{OK, CLOSED, OPEN, NO_MEMORY, NO_SEAT}}
use Rattle.ert_defs.specs.declared.{entry.Actor.TheVariants.Caller, settings.OffsetState.OffsetState, timer.TimerRef.TimerRef}
use Rattle.ert_world.specs.{Seats.{Seated, Steps, BySeat, GivesSeat}, Worlds.Seen}

-- a service gave its next caller a seat, and this one stands behind the seat's handle
pub record HasSeat (old : Seen) (status : ℤ) (world : Option Seen) (seat : Option Seated) : Type 0 where
  pub left : Seen
  pub given : Seated
  pub world_is : world ≡ Some left
  pub seat_is : seat ≡ Some given
  pub gives : GivesSeat old left given
  pub told : status ≡ OK

-- why a service gives no seat: every caller but 0 has one, or there is no memory
abbrev pub IsSeatless : Seen → ℤ → Type 0
IsSeatless old status = ((status ≡ NO_SEAT) × (old.settings.callers ≤ old.next)) ⊎ ((status ≡ NO_MEMORY) × (old.next < old.settings.callers))

-- a seat is opened, or nothing has changed: neither what stands behind the one handle nor behind the other
abbrev pub OpensSeat : Option Seen → Option Seated → ℤ → Option Seen → Option Seated → Type 0
OpensSeat world (Some s) status left given = (status ≡ OPEN) × (left ≡ world) × (given ≡ Some s)
OpensSeat None None status left given = (status ≡ CLOSED) × (left ≡ None) × (given ≡ None)
OpensSeat (Some old) None status left given = HasSeat old status left given ⊎ (IsSeatless old status × (left ≡ Some old) × (given ≡ None))

-- a seat looks up monotonic time as its caller, and C is told it
pub record SeatReadsTime (status time : ℤ) (old new : Seated) : Type 0 where
  pub told : status ≡ OK
  pub steps : Steps old (BySeat old (λ g. TellsTime g (Caller old.number) time)) new

-- a seat looks up system time as its caller, and C is told it
pub record SeatReadsSystemTime (status time : ℤ) (old new : Seated) : Type 0 where
  pub told : status ≡ OK
  pub steps : Steps old (BySeat old (λ g. TellsSystemTime g (Caller old.number) time)) new

-- a seat looks up the time offset and its state as its caller, and C is told them
pub record SeatReadsOffset (status : ℤ) (offset : ErtOffset) (old new : Seated) : Type 0 where
  pub told : status ≡ OK
  pub offset_state : OffsetState
  pub state : offset.state ≡ state_as offset_state
  pub steps : Steps old (BySeat old (λ g. TellsOffset g (Caller old.number) (offset.offset, offset_state))) new

-- a seat cancels a timer as its caller: what was left of it, where it was armed
abbrev pub SeatCancelsBy : TimerRef → Option ℕ → Seated → Seated → Type 0
SeatCancelsBy timer answer old new = Steps old (BySeat old (λ g. Cancels g (Caller old.number) timer answer)) new

-- a seat reads a timer as its caller: what is left of it, where it is armed
abbrev pub SeatReadsBy : TimerRef → Option ℕ → Seated → Seated → Type 0
SeatReadsBy timer answer old new = Steps old (BySeat old (λ g. Reads g (Caller old.number) timer answer)) new

-- a seat sees as its caller whether a process is alive
abbrev pub SeatTellsAliveBy : ℕ → Bool → Seated → Seated → Type 0
SeatTellsAliveBy process answer old new = Steps old (BySeat old (λ g. TellsAlive g (Caller old.number) process answer)) new

-- C is told by a seat whether a process is alive; where there is no such one, nothing has changed
abbrev pub SeatTellsAlive : ℕ → ℕ → ℤ → ℕ → Seated → Seated → Type 0
SeatTellsAlive process kept status found old new = IfBelow process old.settings.processes
    (TellsC (SeatTellsAliveBy process) (λ answer. IsFlag answer status found) old new) (IsOutOfRange status (found ≡ kept) old new)
