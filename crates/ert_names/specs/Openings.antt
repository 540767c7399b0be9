-- A world of names that has just been opened.

use Rattle.std.specs.Prelude.{◌≡◌, []}
use Rattle.std.specs.FinMap as map
use Rattle.ert_defs.specs.declared.settings.Settings.{Settings}
use Rattle.ert_names.specs.Registered.{Registered}
use Rattle.ert_world.specs.Openings.{IsOpened}

-- the world was just opened, no process has a name, and no timer was started for one
pub record IsOpenedWithoutNames (g : Settings) (w : Registered) : Type 0 where
  pub world : IsOpened g w.world
  pub names : w.names ≡ map.empty
  pub rows : w.rows ≡ []
  pub mail : w.mail ≡ []
