-- The turn of a scheduler in which so many timers at most expire, and so many are handed over.

use Rattle.std.specs.Prelude.{◌≡◌, ◌≢◌, ◌⊎◌, ℕ, ◌+◌, ◌<◌, ◌≤◌, Bool, true, false, ◌||◌, List, [], ◌++◌, length, Result, Ok, Err, slice_index_or}
use Rattle.ert_defs.specs.{States.state, Timers.Row, declared.entry.Entry.Entry, declared.memory.NoMemory.NoMemory, declared.settings.Settings.Settings}
use Rattle.ert_effects.specs.{Chains.{ServesAll, Hands, HandsMany, puts, drops}, SomeCalls.{AdvancesWheelSome, is_more}, Ways.{Growth, Way, Then}, declared.answers.Handed.Handed, declared.answers.Left.Left}
use Rattle.ert_effects.specs.{declared.answers.Left.TheVariants.{Nothing, Due, Moving}, declared.answers.Turned.Turned}
use Rattle.ert_timers.specs.{Parts.Part, Trying.{IsLeft, LosesSome}}
use Rattle.ert_world.specs.{Held.HoldsFewer, Worlds.{Seen, world_sched}}

-- whether expired timers are left, of which so many were handed over: they are left only after the most
abbrev pub AreLeft : Bool → ℕ → ℕ → List Row → Type 0
AreLeft true most count expired = (count ≡ most) × (expired ≢ [])
AreLeft false most count expired = expired ≡ []

-- expired timers are handed over, so many at most: so many are put, and so many thrown away, and whether more are left
pub record HasDeliveredSome (g : Settings) (way : Way) (w most : ℕ) (answer : ℕ × ℕ × Bool) (h m : List Entry) : Type 0 where
  pub hows : List Handed
  pub runs : HandsMany g way w hows h m
  pub few : length hows ≤ most
  pub put_is : answer.0 ≡ puts hows
  pub dropped_is : answer.1 ≡ drops hows
  pub rest : AreLeft answer.2 most (length hows) ((state g (h ++ m)).scheds w).expired

-- fewer than that are handed over, and there is no memory for the next: it stays in the list
pub record CannotDeliverSome (g : Settings) (way : Way) (w most : ℕ) (e : NoMemory) (h m : List Entry) : Type 0 where
  pub hows : List Handed
  pub few : length hows < most
  pub runs : Then (HandsMany g way w hows) (Hands g way w (Err e)) h m

-- `deliver_some`, of so many expired timers of a scheduler at most
abbrev pub DeliversSome : Settings → Way → ℕ → ℕ → Result (ℕ × ℕ × Bool) NoMemory → Growth
DeliversSome g way w most (Ok answer) h m = HasDeliveredSome g way w most answer h m
DeliversSome g way w most (Err e) h m = CannotDeliverSome g way w most e h m

-- a turn is done: requests are served, the wheel is advanced and expired timers are handed over, so many timers at most in
-- both; there are more where the advance goes on with something, or expired ones are left
pub record HasTurnedSome (g : Settings) (way : Way) (w most : ℕ) (t : Turned) (more : Bool) (h m : List Entry) : Type 0 where
  pub left : Left
  pub waits : Bool
  pub more_is : more ≡ (is_more left || waits)
  pub runs : Then (ServesAll g way w (Ok t.served))
      (Then (AdvancesWheelSome g way w most (Ok (t.to, t.expired, left))) (DeliversSome g way w most (Ok (t.put, t.dropped, waits)))) h m

-- there is no memory to serve, to advance or to deliver; what was done before stays
abbrev pub CannotTurnSome : Settings → Way → ℕ → ℕ → NoMemory → Growth
CannotTurnSome g way w most e h m =
    ServesAll g way w (Err e) h m
    ⊎ ((served : ℕ) × Then (ServesAll g way w (Ok served)) (AdvancesWheelSome g way w most (Err e)) h m)
    ⊎ ((served : ℕ) × (advanced : ℕ × ℕ × Left)
    × Then (ServesAll g way w (Ok served)) (Then (AdvancesWheelSome g way w most (Ok advanced)) (DeliversSome g way w most (Err e))) h m)

-- `turn_some`: as `turn`, with `advance_some` for `advance`, and `deliver` of so many expired timers at most;
-- what it did, and whether there are more
abbrev pub TurnsSome : Settings → Way → ℕ → ℕ → Result (Turned × Bool) NoMemory → Growth
TurnsSome g way w most (Ok answer) h m = HasTurnedSome g way w most answer.0 answer.1 h m
TurnsSome g way w most (Err e) h m = CannotTurnSome g way w most e h m

-- what an advance with a bound has left of a wheel
abbrev pub IsLeftAt : Seen → ℕ → ℕ → Left → Type 0
IsLeftAt w i to left = (d : Part) → IsLeft (slice_index_or w.wheels i d) to left

-- whether a turn with a bound has left something: a row of the wheel that is due by a time, or a time to which the wheel hasn't
-- come, or expired timers
abbrev pub IsMoreAt : Seen → ℕ → ℕ → Bool → Type 0
IsMoreAt w i to true = (IsLeftAt w i to Due ⊎ IsLeftAt w i to Moving) ⊎ ((world_sched w i).expired ≢ [])
IsMoreAt w i to false = IsLeftAt w i to Nothing × ((world_sched w i).expired ≡ [])

-- how many rows fewer a wheel holds after an advance with a bound
abbrev pub LosesSomeAt : Seen → Seen → ℕ → Left → ℕ → Type 0
LosesSomeAt old new i left most = (d : Part) → LosesSome left most (slice_index_or old.wheels i d) (slice_index_or new.wheels i d)

-- a turn with a bound did as much as it may: so many messages were handed over, or so many rows went at least, or rows have
-- to move first, of which so many did
abbrev pub HasDoneMost : Seen → Seen → ℕ → ℕ → Turned → Type 0
HasDoneMost old new i most t = (t.put + t.dropped ≡ most) ⊎ HoldsFewer old new i most ⊎ IsLeftAt new i t.to Moving
