-- What a turn answers, and how it moves the world and the intervals.

use Rattle.std.specs.Prelude.{◌≡◌, ◌⊎◌, ℕ, List, Result, Ok, Err}
use Rattle.ert_effects.specs.{Chains.Turns, declared.answers.Turned.Turned}
use Rattle.ert_defs.specs.declared.memory.NoMemory.{NoMemory}
use Rattle.ert_interval.specs.{Calls.{Still, PassesAll, PassesSome}, Going.StepsAll, declared.interval.Interval.Interval, declared.turns.IntervalTurn.IntervalTurn}
use Rattle.ert_world.specs.Worlds.{Seen, Goes}

-- the world makes its turn, and then its history grows by what the intervals do: by the steps of each in
-- order of number, of which this is the answer
pub record TurnsTo (w : ℕ) (turned : Turned) (answer : Result ℕ NoMemory) (old : Seen) (is : List Interval) (new : Seen) (js : List Interval) : Type 0 where
  pub between : Seen
  pub turn : Goes old (λ way. Turns old.settings way w (Ok turned)) between
  pub still : Still between new
  pub steps : StepsAll w answer between is new js

-- the world's turn had no memory, and no interval has gone on; or the turn of the intervals had none
abbrev pub HasStopped : ℕ → NoMemory → Seen → List Interval → Seen → List Interval → Type 0
HasStopped w e old is new js =
    (Goes old (λ way. Turns old.settings way w (Err e)) new × (js ≡ is))
    ⊎ (((turned : Turned) × TurnsTo w turned (Err e) old is new js) × PassesSome w new is js)

-- `turn`: the world's turn, and then one step of each interval of the wheel that is Running or Waiting. At the
-- end it is Running with an armed timer, Waiting if the wheel is full, or Ended
abbrev pub TurnsIntervals : ℕ → Result IntervalTurn NoMemory → Seen → List Interval → Seen → List Interval → Type 0
TurnsIntervals w (Ok t) old is new js = TurnsTo w t.turned (Ok t.armed) old is new js × PassesAll w new is js t.armed
TurnsIntervals w (Err e) old is new js = HasStopped w e old is new js
