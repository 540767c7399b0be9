-- The lists of a race.

use Rattle.std.specs.Prelude.{◌≡◌, true, Option, Some, None, is_some, option_map, refl}
use Rattle.ert_ops.specs.{Races.race_of, declared.race.RaceLists.RaceLists}

-- there are lists where they are a race
pub wanted_of : (lists : Option RaceLists) → is_some (option_map race_of lists) ≡ true → is_some lists ≡ true
wanted_of None wanted = wanted
wanted_of (Some lists) wanted = refl
