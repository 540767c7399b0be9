-- What the call that cancels all timers of a process records and answers.

use Rattle.std.specs.Prelude.{◌≡◌, ◌≢◌, ℕ, suc, ◌+◌, cond, sum, List, [], ◌∷◌, ◌++◌, length, slice_index_or, Option, Some, None}
use Rattle.std.specs.Option.{is_some}
use Rattle.ert_defs.specs.{States.state, declared.entry.Actor.TheVariants.Caller, declared.entry.Entry.Entry, declared.settings.Settings.Settings, declared.timer.TimerRef.TimerRef}
use Rattle.ert_effects.specs.{TimerCalls.Cancels, Ways.{Way, Many}, WheelCalls.{IsFor, IsSwept}}
use Rattle.ert_timers.specs.{Freeing.IsHeld, Parts.Part}
use Rattle.ert_world.specs.Worlds.{Seen}

-- a timer that was tried, and what was left of it where it was cancelled; nothing where a seat had cancelled it before
pub record Ended : Type 0 where
  pub timer : TimerRef
  pub left : Option ℕ

-- how many of them were cancelled
abbrev pub cancelled_of : List Ended → ℕ
cancelled_of [] = 0
cancelled_of (e ∷ es) = cond (is_some e.left) 1 0 + cancelled_of es

-- none of them is this timer
abbrev pub IsOther : TimerRef → List Ended → Type 0
IsOther timer [] = Unit {0}
IsOther timer (e ∷ es) = (e.timer ≢ timer) × IsOther timer es

-- no timer was tried twice
abbrev pub AreTriedOnce : List Ended → Type 0
AreTriedOnce [] = Unit {0}
AreTriedOnce (e ∷ es) = IsOther e.timer es × AreTriedOnce es

-- a timer of a wheel for a process is cancelled, or had been settled before
pub record CancelsOne (g : Settings) (way : Way) (w process : ℕ) (one : Ended) (h m : List Entry) : Type 0 where
  pub of : IsFor ((state g h).rows w) process one.timer
  pub cancels : way [] (Cancels g (Caller 0) one.timer one.left) h m

-- timers of a wheel for a process are cancelled, so many, one after the other. Then none that is for it is armed
pub record CancelsOn (g : Settings) (way : Way) (process : ℕ) (at : ℕ × ℕ) (h m : List Entry) : Type 0 where
  pub ended : List Ended
  pub once : AreTriedOnce ended
  pub runs : Many (CancelsOne g way at.0 process) ended h m
  pub count : at.1 ≡ cancelled_of ended
  pub swept : IsSwept (state g (h ++ m)) at.0 process

-- the wheels from one on, each with its number
abbrev pub numbered : ℕ → List ℕ → List (ℕ × ℕ)
numbered w [] = []
numbered w (n ∷ ns) = (w, n) ∷ numbered (suc w) ns

-- `cancel_all`: wheel by wheel, by number, timers that have a row for the process are cancelled, none of them
-- twice; after those of a wheel none of it for the process is armed. The answer is how many of the cancels hit
pub record CancelsAll (g : Settings) (way : Way) (process count : ℕ) (h m : List Entry) : Type 0 where
  pub counts : List ℕ
  pub wheels : length counts ≡ g.schedulers
  pub total : count ≡ sum counts
  pub runs : Many (CancelsOn g way process) (numbered 0 counts) h m

-- a wheel of a world holds a timer, which has a row for a process; or no timer of the wheel for the process is armed
abbrev pub IsHeldAt : Seen → ℕ → ℕ → Option TimerRef → Type 0
IsHeldAt w i process (Some timer) =
    (timer.wheel ≡ i) × ((d : Part) → IsHeld (slice_index_or w.wheels i d) timer) × IsFor ((state w.settings w.history).rows i) process timer
IsHeldAt w i process None = IsSwept (state w.settings w.history) i process
