-- A timer whose word is read, and one that is cancelled and gives its slot to another by one step.

use Rattle.std.specs.Prelude.{◌≡◌, ℕ, ◌<◌, ℤ, Bool, true, false, length, List, [], ◌∷◌, Option, Some, None, option_map}
use Rattle.ert_defs.specs.{Entries.{peek_entry, cancel_entry, arm_entry}, Legal.IsSlot, Milliseconds.{natural, down, left, deadline_of}, States.{State, uses_at, state}, Timers.{IsNextUse, timer_at}, Words.timer_word}
use Rattle.ert_defs.specs.{declared.entry.Actor.Actor, declared.entry.Actor.TheVariants.{Caller, Wheel}, declared.entry.Entry.Entry, declared.settings.Settings.Settings, declared.timer.Start.Start, declared.timer.Status.TheVariants.Armed}
use Rattle.ert_defs.specs.{declared.timer.TimerRef.TimerRef}
use Rattle.ert_table.specs.{Held.is_held, Settlings.HasRow, Takes.Appends, declared.renew_steps.ArmedWord.ArmedWord, declared.view.View.View, Ranges.word_deadline}

-- a word that was read is that of a timer, armed, and has the deadline of its row
pub record IsWordOf (s : State) (timer : TimerRef) (read : ArmedWord) : Type 0 where
  pub row : HasRow s timer (word_deadline read.word)
  pub is : read.word ≡ timer_word Armed (word_deadline read.word) timer.generation

-- where a word was read the timer is armed
abbrev pub TellsWord : State → TimerRef → Option ArmedWord → Type 0
TellsWord s timer None = Unit {0}
TellsWord s timer (Some read) = IsWordOf s timer read × (s.status timer ≡ Some Armed)

-- a timer was read: what is left of it by the last look follows from the word that is answered
pub record PeeksWord (g : Settings) (v : View) (by : Actor) (timer : TimerRef) (answer : Option ArmedWord) (w : View) : Type 0 where
  pub step : Appends g v (peek_entry by timer
      (option_map (λ (read : ArmedWord). left g (word_deadline read.word) ((state g v.front).looked by)) answer)) w
  pub tells : TellsWord (state g w.front) timer answer

-- a pass may cancel a timer and start the next one of its slot, of this generation, by one step: that one has a deadline,
-- the slot has a use left, and the wheel has had fewer than 2^53 timers. Whether the slot is free is left to the step,
-- which frees it
pub record MayRenew (g : Settings) (v : View) (by : ℕ) (timer : TimerRef) (generation : ℕ) (start : Start) : Type 0 where
  pub caller : is_held v.actors (Caller by) ≡ true
  pub wheel : is_held v.actors (Wheel timer.wheel) ≡ true
  pub by_high : by < g.callers
  pub slot : IsSlot g timer.wheel timer.slot
  pub dest : start.dest < g.processes
  pub wanted : ℕ
  pub due : deadline_of g start ((state g v.front).looked (Caller by)) ≡ Some wanted
  pub next_use : IsNextUse (uses_at (state g v.front) timer.wheel timer.slot)
      (natural (down g ((state g v.front).looked (Caller by)))) wanted generation
  pub few : length ((state g v.front).rows timer.wheel) < 9007199254740992

-- the entries of the step, by a caller with this last look: the timer, which had this deadline, is cancelled and the next
-- one of its slot is armed; or it was settled before
abbrev pub renewal : Settings → ℤ → ℕ → TimerRef → ℕ → ℕ → Start → Bool → List Entry
renewal g look by timer deadline generation start true =
    cancel_entry (Caller by) timer (Some (left g deadline look)) ∷ (arm_entry by (timer_at timer.wheel timer.slot generation) start ∷ [])
renewal g look by timer deadline generation start false = cancel_entry (Caller by) timer None ∷ []
