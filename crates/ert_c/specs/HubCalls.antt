-- What C is told of a hub.

use Rattle.std.specs.Prelude.{◌≡◌, ◌⊎◌, ℕ, ◌<◌, ◌≤◌, ℤ, Bool, Option, Some, None, Result, Ok, Err}
use Rattle.ert_clock.specs.{Ticks.{act_of, Gives, ClockFinalizesFrom}, declared.clock.ClockErr.ClockErr, declared.clock.Moved.Moved}
use Rattle.ert_effects.specs.{ClockCalls.{Ticks, Finalizes, TellsTime, TellsOffset, TellsSystemTime}, TimerCalls.{Reads, Cancels}}
use Rattle.ert_c.specs.{ClockCalls.state_as, Opened.ReadsSettings, Through.IfBelow, declared.clock_calls.ErtOffset.ErtOffset, declared.opening.ErtSettings.ErtSettings, declared.status.TheConstants.{OK, CLOSED, OPEN, NO_MEMORY, BAD_COUNT}}
use Rattle.ert_c.specs.{declared.status.TheConstants.NO_SEAT}
use Rattle.ert_defs.specs.declared.{entry.Actor.TheVariants.Caller, settings.OffsetState.OffsetState, settings.Reading.Reading, settings.Settings.Settings, timer.TimerRef.TimerRef}
use Rattle.ert_shard.specs.Hubs.{Rest, IsFresh, HubGivesSeat, HubGoes, HubSteps, HubBy}
use Rattle.ert_world.specs.{Openings.IsOpened, Seats.Seated, Worlds.Seen}

-- a hub stands behind the handle: that of a service that was opened with these settings, of which nothing was given away
pub record HasHub (g : Settings) (status : ℤ) (new : Option Rest) : Type 0 where
  pub world : Seen
  pub hub : Rest
  pub is : new ≡ Some hub
  pub opened : IsOpened g world
  pub fresh : IsFresh world hub
  pub told : status ≡ OK

-- what was read opens a hub, or finds no memory for it; a refusal is told by its status, as is a number of callers that
-- isn't above that of the schedulers
abbrev pub OpensHubBy : Result Settings ℤ → ℤ → Option Rest → Type 0
OpensHubBy (Ok g) status new =
    IfBelow g.schedulers g.callers (HasHub g status new ⊎ ((status ≡ NO_MEMORY) × (new ≡ None))) ((status ≡ BAD_COUNT) × (new ≡ None))
OpensHubBy (Err why) status new = (status ≡ why) × (new ≡ None)

-- behind a closed handle a hub is opened with what C passed, or isn't
pub record OpensNewHub (c : ErtSettings) (status : ℤ) (new : Option Rest) : Type 0 where
  pub read : Result Settings ℤ
  pub meant : ReadsSettings c read
  pub opens : OpensHubBy read status new

-- a closed handle is opened or stays closed, and an open one is left as it was
abbrev pub OpensHub : ErtSettings → Option Rest → ℤ → Option Rest → Type 0
OpensHub c None status new = OpensNewHub c status new
OpensHub c (Some r) status new = (status ≡ OPEN) × (new ≡ Some r)

-- a hub gave its next caller a seat, and this one stands behind the seat's handle
pub record HasHubSeat (old : Rest) (status : ℤ) (hub : Option Rest) (seat : Option Seated) : Type 0 where
  pub left : Rest
  pub given : Seated
  pub hub_is : hub ≡ Some left
  pub seat_is : seat ≡ Some given
  pub gives : HubGivesSeat old left given
  pub told : status ≡ OK

-- why a hub gives no seat: every caller after those of the schedulers has one, or there is no memory
abbrev pub IsHubSeatless : Rest → ℤ → Type 0
IsHubSeatless old status = ((status ≡ NO_SEAT) × (old.settings.callers ≤ old.next)) ⊎ ((status ≡ NO_MEMORY) × (old.next < old.settings.callers))

-- a seat of a hub is opened, or nothing has changed: neither what stands behind the one handle nor behind the other
abbrev pub OpensHubSeat : Option Rest → Option Seated → ℤ → Option Rest → Option Seated → Type 0
OpensHubSeat hub (Some s) status left given = (status ≡ OPEN) × (left ≡ hub) × (given ≡ Some s)
OpensHubSeat None None status left given = (status ≡ CLOSED) × (left ≡ None) × (given ≡ None)
OpensHubSeat (Some old) None status left given = HasHubSeat old status left given ⊎ (IsHubSeatless old status × (left ≡ Some old) × (given ≡ None))

-- a hub makes a tick
pub record HubTicksBy (r : Reading) (force : Bool) (answer : Result Moved ClockErr) (old new : Rest) : Type 0 where
  pub gives : Gives old.clock r (act_of force) answer new.clock
  pub goes : HubGoes old (HubBy old (λ g. Ticks g 0 r force answer)) new

-- a hub makes a finalization
pub record HubFinalizesBy (r : Reading) (answer : Result (OffsetState × Moved) ClockErr) (old new : Rest) : Type 0 where
  pub gives : ClockFinalizesFrom old.clock.face.state old.clock r answer new.clock
  pub goes : HubGoes old (HubBy old (λ g. Finalizes g 0 r answer)) new

-- a hub looks up monotonic time as caller 0, and C is told it
pub record HubReadsTime (status time : ℤ) (old new : Rest) : Type 0 where
  pub told : status ≡ OK
  pub steps : HubSteps old (HubBy old (λ g. TellsTime g (Caller 0) time)) new

-- a hub looks up system time as caller 0, and C is told it
pub record HubReadsSystemTime (status time : ℤ) (old new : Rest) : Type 0 where
  pub told : status ≡ OK
  pub steps : HubSteps old (HubBy old (λ g. TellsSystemTime g (Caller 0) time)) new

-- a hub looks up the time offset and its state as caller 0, and C is told them
pub record HubReadsOffset (status : ℤ) (offset : ErtOffset) (old new : Rest) : Type 0 where
  pub told : status ≡ OK
  pub offset_state : OffsetState
  pub state : offset.state ≡ state_as offset_state
  pub steps : HubSteps old (HubBy old (λ g. TellsOffset g (Caller 0) (offset.offset, offset_state))) new

-- a hub cancels a timer as caller 0: what was left of it, where it was armed
abbrev pub HubCancelsBy : TimerRef → Option ℕ → Rest → Rest → Type 0
HubCancelsBy timer answer old new = HubSteps old (HubBy old (λ g. Cancels g (Caller 0) timer answer)) new

-- a hub reads a timer as caller 0: what is left of it, where it is armed
abbrev pub HubReadsBy : TimerRef → Option ℕ → Rest → Rest → Type 0
HubReadsBy timer answer old new = HubSteps old (HubBy old (λ g. Reads g (Caller 0) timer answer)) new
