-- What is left of a timer, as a call tells it that has looked at the time.

use Rattle.std.specs.Prelude.{◌≡◌, ◌↔◌, ℕ, Bool, true, false, List, [], ◌∷◌, ◌++◌, Option, Some, None, IsSome}
use Rattle.ert_defs.specs.{Legal.{left_of, names_timer}, States.{State, state}, declared.entry.Actor.Actor, declared.entry.Entry.Entry, declared.settings.Settings.Settings, declared.timer.Status.TheVariants.Armed}
use Rattle.ert_defs.specs.{declared.timer.TimerRef.TimerRef}
use Rattle.ert_table.specs.{Calls.IsMade, declared.view.View.View}

-- so it was in the state in which the last entry of a front was made
pub record AtLastStep (g : Settings) (front : List Entry) (holds : State → Type 0) : Type 0 where
  pub before : List Entry
  pub last : Entry
  pub grown : front ≡ before ++ last ∷ []
  pub held : holds (state g before)

-- this is left of a timer by the last look of an actor, in a state: something exactly where it is armed
pub record IsLeftByLook (g : Settings) (by : Actor) (timer : TimerRef) (answer : Option ℕ) (s : State) : Type 0 where
  pub told : answer ≡ left_of g s by timer
  pub armed : IsSome answer ↔ (s.status timer ≡ Some Armed)

-- the answer is what was left at the last step, by the call's own look; None where the reference is out of
-- range
abbrev pub TellsLeft : Bool → Settings → Actor → TimerRef → Option ℕ → View → Type 0
TellsLeft false g by timer answer w = answer ≡ None
TellsLeft true g by timer answer w = AtLastStep g w.front (IsLeftByLook g by timer answer)

-- a call on a timer took place with entries that it may make, and its answer is what was left
pub record IsMadeTellingLeft (g : Settings) (v : View) (by : Actor) (timer : TimerRef) (answer : Option ℕ) (allows : State → List Entry → Type 0) (w : View) : Type 0 where
  pub call : IsMade g v allows w
  pub left : TellsLeft (names_timer g timer) g by timer answer w
