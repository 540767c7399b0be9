-- What a shard's scheduler has, its turns, and the exit of one of its processes: of one wheel, and with requests that
-- may be for another shard's process. The laws of `ert_effects` on exits and turns don't speak of these relations.

use Rattle.std.specs.Option.{is_some}
use Rattle.std.specs.Prelude.{◌≡◌, ◌≢◌, ℕ, ◌+◌, ◌≤◌, ◌⊎◌, Bool, true, false, ◌||◌, List, [], count_by, Result, Ok, Err}
use Rattle.ert_defs.specs.{States.sched_of, Timers.Row, declared.entry.Actor.TheVariants.Caller, declared.entry.Entry.Entry, declared.memory.NoMemory.NoMemory, declared.settings.Settings.Settings}
use Rattle.ert_effects.specs.{Chains.{AdvancesWheel, Delivers, SweepsWheel}, SomeCalls.{AdvancesWheelSome, is_more}, WheelCalls.MarksExit, Ways.{Growth, Way, Then}, declared.answers.Left.Left, declared.answers.Left.TheVariants.Nothing}
use Rattle.ert_effects.specs.{declared.answers.Left.TheVariants.{Due, Moving}}
use Rattle.ert_shard.specs.{Serving.ShardServesAll, Shards.{Share, Owned}, declared.turns.Turn.Turn}
use Rattle.ert_timers.specs.{Parts.Part, Trying.IsLeft}
use Rattle.ert_world.specs.Bounded.{DeliversSome}

-- the expired timers of a shard
abbrev pub shard_expired : Owned → List Row
shard_expired o = (sched_of o.settings o.history o.share.number).expired

-- a turn: requests are served, the wheel is advanced, and all expired timers are handed over. There may be no memory for one
-- of these, and what was done before stays
abbrev pub ShardTurns : Settings → Way → Share → Result Turn NoMemory → Growth
ShardTurns g way s (Ok t) h m = Then (ShardServesAll g way s (Ok t.served))
    (Then (AdvancesWheel g way s.number (Ok (t.to, t.expired))) (Delivers g way s.number (Ok (t.put, t.dropped)))) h m
ShardTurns g way s (Err e) h m =
    ShardServesAll g way s (Err e) h m
    ⊎ ((served : ℕ) × Then (ShardServesAll g way s (Ok served)) (AdvancesWheel g way s.number (Err e)) h m)
    ⊎ ((served : ℕ) × (advanced : ℕ × ℕ)
    × Then (ShardServesAll g way s (Ok served)) (Then (AdvancesWheel g way s.number (Ok advanced)) (Delivers g way s.number (Err e))) h m)

-- whether a turn with a bound has left something: a row of the shard's wheel that is due by a time, or a time to which the
-- wheel hasn't come, or expired timers
abbrev pub IsMoreLeft : Owned → ℕ → Bool → Type 0
IsMoreLeft o to true = (IsLeft o.wheel to Due ⊎ IsLeft o.wheel to Moving) ⊎ (shard_expired o ≢ [])
IsMoreLeft o to false = IsLeft o.wheel to Nothing × (shard_expired o ≡ [])

-- a turn with a bound did as much as it may: so many messages were handed over, or so many rows went at least, or rows have
-- to move first, of which so many did
abbrev pub HasTurnedMost : Part → Part → ℕ → Turn → Type 0
HasTurnedMost old new most t =
    (t.put + t.dropped ≡ most) ⊎ (count_by is_some new.keys + most ≤ count_by is_some old.keys) ⊎ IsLeft new t.to Moving

-- a turn with a bound: requests are served, so many timers at most expire, and so many are handed over; there are more where the
-- advance goes on with something, or expired ones are left
pub record HasTurnedUpTo (g : Settings) (way : Way) (s : Share) (most : ℕ) (t : Turn) (more : Bool) (h m : List Entry) : Type 0 where
  pub left : Left
  pub waits : Bool
  pub more_is : more ≡ (is_more left || waits)
  pub runs : Then (ShardServesAll g way s (Ok t.served))
      (Then (AdvancesWheelSome g way s.number most (Ok (t.to, t.expired, left))) (DeliversSome g way s.number most (Ok (t.put, t.dropped, waits)))) h m

-- `turn_some` of a shard. There may be no memory to serve, to advance or to deliver, and what was done before stays
abbrev pub TurnsUpTo : Settings → Way → Share → ℕ → Result (Turn × Bool) NoMemory → Growth
TurnsUpTo g way s most (Ok answer) h m = HasTurnedUpTo g way s most answer.0 answer.1 h m
TurnsUpTo g way s most (Err e) h m =
    ShardServesAll g way s (Err e) h m
    ⊎ ((served : ℕ) × Then (ShardServesAll g way s (Ok served)) (AdvancesWheelSome g way s.number most (Err e)) h m)
    ⊎ ((served : ℕ) × (advanced : ℕ × ℕ × Left)
    × Then (ShardServesAll g way s (Ok served)) (Then (AdvancesWheelSome g way s.number most (Ok advanced)) (DeliversSome g way s.number most (Err e))) h m)

-- the process exits, and where it hadn't before, the shard's wheel is swept, which has all its timers
abbrev pub ShardExits : Settings → Way → ℕ → ℕ → Bool → Growth
ShardExits g way n process true h m =
    Then (way [] (MarksExit g (Caller (n + 1)) process true)) (SweepsWheel g way (n + 1) process n) h m
ShardExits g way n process false h m = way [] (MarksExit g (Caller (n + 1)) process false) h m
