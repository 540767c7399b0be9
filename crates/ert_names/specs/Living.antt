-- A process with a name lives.

use Rattle.std.specs.Prelude.{◌≡◌, ℕ, false, List, Some}
use Rattle.std.specs.FinMap as map
use Rattle.ert_defs.specs.States.{state}
use Rattle.ert_names.specs.Names.{Names}
use Rattle.ert_world.specs.Worlds.{Seen}

-- a process hasn't exited in the history of a world
abbrev pub Lives : Seen → ℕ → Type 0
Lives w process = (state w.settings w.history).exited process ≡ false

-- each name is that of a process that lives
abbrev pub AreLiving : Names → Seen → Type 0
AreLiving names w = (name : List ℕ) (process : ℕ) → map.get names name ≡ Some process → Lives w process
