-- What a judge says of a history.

use Rattle.std.specs.Prelude.{◌≡◌, ℕ, ◌<◌, ◌+◌, List, length, take, slice_get, Some}
use Rattle.ert_defs.specs.{Legal.Legal, States.state, declared.entry.Entry.Entry, declared.settings.Settings.Settings}
use Rattle.ert_judge.specs.{Reasons.IsFirstReason, declared.stops.Stop.Stop}

-- the entries before a place are legal, and with that at the place they aren't
pub record IsFirstIllegal (g : Settings) (h : List Entry) (place : ℕ) : Type 0 where
  pub within : place < length h
  pub legal : Legal g (take place h)
  pub illegal : Legal g (take (place + 1) h) → ⊥

-- a history stops at the first entry that isn't legal, by a reason that holds of it after those before it
pub record StopsAtIllegal (g : Settings) (h : List Entry) (stop : Stop) : Type 0 where
  pub first : IsFirstIllegal g h stop.place
  pub entry : Entry
  pub stands : slice_get h stop.place ≡ Some entry
  pub holds : IsFirstReason g (state g (take stop.place h)) entry stop.why
