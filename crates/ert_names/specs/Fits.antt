-- What a world of names leaves undone, so that its registrar has the messages of named timers alone and whoever has a
-- name lives.

use Rattle.std.specs.Prelude.{◌≡◌, ℕ, ◌<◌, ◌≤◌, false, List, [], ◌∷◌}
use Rattle.ert_defs.specs.declared.{entry.Entry.Entry, entry.Event.Event, entry.Event.TheVariants.{Arm, Ask, Mark, Tell, Watch}, timer.Kind.TheVariants.Wrapped}
use Rattle.ert_names.specs.{Living.AreLiving, Names.Names}
use Rattle.ert_world.specs.Worlds.{Seen}

-- an event where so many rows were made, and by which a process doesn't exit: a timer for the registrar is wrapped
-- and has the place of a row as its message, and nobody asks a scheduler for anything or watches the offset
abbrev pub EventFits : ℕ → ℕ → Event → Type 0
EventFits rows spared (Arm timer start) = start.dest ≡ 0 → (start.kind ≡ Wrapped) × (start.msg < rows)
EventFits rows spared (Mark process exits was) = process ≡ spared → exits ≡ false
EventFits rows spared (Ask wheel request) = ⊥
EventFits rows spared (Watch process monitor offset) = ⊥
EventFits rows spared (Tell process offset) = ⊥
EventFits rows spared _ = Unit {0}

-- each of these entries has such an event, where so many rows were made, and spares the process
abbrev pub AllFit : ℕ → ℕ → List Entry → Type 0
AllFit rows spared [] = Unit {0}
AllFit rows spared (e ∷ es) = EventFits rows spared e.event × AllFit rows spared es

-- a world gave out no seat and fits so many rows, and its registrar doesn't exit
pub record FitsRows (rows : ℕ) (w : Seen) : Type 0 where
  pub processes : 2 ≤ w.settings.processes
  pub lone : w.next ≡ 1
  pub entries : AllFit rows 0 w.history

-- a world fits so many rows, and each of these names is that of a process that lives
pub record FitsNames (rows : ℕ) (names : Names) (w : Seen) : Type 0 where
  pub fits : FitsRows rows w
  pub living : AreLiving names w
