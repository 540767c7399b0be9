-- What an advance of a wheel records and answers that tries so many timers at most.

use Rattle.std.specs.Prelude.{◌≡◌, ℕ, ◌≤◌, ℤ, pos, Bool, true, false, List, [], ◌∷◌, ◌++◌, length, Result, Ok, Err}
use Rattle.ert_defs.specs.{Entries.{look_entry, advanced_entry}, Milliseconds.down, States.State, declared.entry.Actor.TheVariants.{Wheel, Sched}, declared.entry.Entry.Entry, declared.memory.NoMemory.NoMemory}
use Rattle.ert_defs.specs.{declared.settings.Settings.Settings}
use Rattle.ert_effects.specs.{Ways.{Growth, Way}, WheelCalls.{Try, expiry_entries, hits, AllMissesSettled, AllDue, AreOnce, Advances}, declared.answers.Left.Left, declared.answers.Left.TheVariants.{Nothing, Due, Moving}}

-- whether the next advance goes on with something
abbrev pub is_more : Left → Bool
is_more Nothing = false
is_more Due = true
is_more Moving = true

-- the record of an advance, which there is only where it has come to its end
abbrev pub end_entries : ℕ → ℕ → Left → List Entry
end_entries w to Nothing = advanced_entry w to ∷ []
end_entries w to Due = []
end_entries w to Moving = []

-- so many tries were made: that more timers are due is told only after the most
abbrev pub AreTried : Left → ℕ → ℕ → Type 0
AreTried Nothing most count = count ≤ most
AreTried Due most count = count ≡ most
AreTried Moving most count = count ≤ most

-- a scheduler advances its wheel, but tries so many timers at most: a look, the tries, and the record where no timer is left
-- that is due by then. It answers the whole milliseconds of its look, the number of timers that expired, and what is left. As
-- in an advance each try is of a timer that is due by then, none is tried twice, and a timer that didn't expire was settled
-- by another
pub record HasAdvancedSome (g : Settings) (w most : ℕ) (answer : ℕ × ℕ × Left) (s : State) (es : List Entry) : Type 0 where
  pub now : ℤ
  pub told : pos answer.0 ≡ down g now
  pub tries : List Try
  pub expired : answer.1 ≡ hits tries
  pub settled : AllMissesSettled tries
  pub due : AllDue (s.rows w) answer.0 tries
  pub once : AreOnce tries
  pub tried : AreTried answer.2 most (length tries)
  pub entries : es ≡ look_entry (Sched w) now ∷ (expiry_entries w tries ++ end_entries w answer.0 answer.2)

-- `advance_some`, of a scheduler's wheel: as `advance`, but so many Expires and Probes at most. Where it
-- answers that more are due it makes just so many, and no Advanced, which there isn't either where rows of the
-- wheel have to move first. When out of memory it does no more than an advance does
abbrev pub AdvancesSome : Settings → ℕ → ℕ → Result (ℕ × ℕ × Left) NoMemory → State → List Entry → Type 0
AdvancesSome g w most (Ok answer) s es = HasAdvancedSome g w most answer s es
AdvancesSome g w most (Err e) s es = Advances g w (Err e) s es

-- `advance_some`, of a scheduler, as a locked step with the wheel
abbrev pub AdvancesWheelSome : Settings → Way → ℕ → ℕ → Result (ℕ × ℕ × Left) NoMemory → Growth
AdvancesWheelSome g way w most answer = way (Wheel w ∷ []) (AdvancesSome g w most answer)
