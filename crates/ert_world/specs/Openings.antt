-- A world that has just been opened, and its parts.

use Rattle.std.specs.Prelude.{◌≡◌, ℕ, ◌<◌, List, [], length, slice_index_or, None}
use Rattle.ert_defs.specs.declared.settings.Settings.{Settings}
use Rattle.ert_mail.specs.Inboxes.{Waiting}
use Rattle.ert_timers.specs.{Parts.{Part, PartStands}, declared.sched_part.SchedPart.SchedPart}
use Rattle.ert_world.specs.Worlds.{Seen, StandsFor}

-- a world was opened: it stands for the empty history, has given out no seat, and no process waits for a turn
pub record IsOpened (g : Settings) (w : Seen) : Type 0 where
  pub stands : StandsFor g [] w
  pub next : w.next ≡ 1
  pub turns : w.turns ≡ None

-- so many parts of one kind, each new as its number says
pub record AreNew {X : Type 0} (is_new : ℕ → X → Type 0) (count : ℕ) (xs : List X) : Type 0 where
  pub counted : length xs ≡ count
  pub each : (i : ℕ) (d : X) → i < count → is_new i (slice_index_or xs i d)

-- the wheel of a scheduler that has no timer yet
pub record IsNewWheel (g : Settings) (number : ℕ) (p : Part) : Type 0 where
  pub named : p.number ≡ number
  pub stands : PartStands g [] p

-- the inbox of a scheduler in which no request waits
abbrev pub IsNewInbox : ℕ → Waiting → Type 0
IsNewInbox number q = q ≡ record { wheel = number; requests = [] }

-- a scheduler that has nothing yet
pub record IsNewSched (number : ℕ) (p : SchedPart) : Type 0 where
  pub named : p.wheel ≡ number
  pub hand : p.hand ≡ None
  pub expired : p.expired.rows ≡ []
