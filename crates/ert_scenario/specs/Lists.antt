-- The lists of ops of a value: that of the field `ops`, and those of the field `race`.

use Rattle.std.specs.Prelude.{ℕ, List, map, length, codes, Bool, true, false, Option, Some, None, Ok, option_map}
use Rattle.serde_json.specs.{Data.Data, View.view}
use Rattle.ert_scenario.specs.Kinds.{FoundOrFault, ◌>>=◌, read_both, of_kind, listed, arrays}
use Rattle.ert_scenario.specs.{Fields.field, declared.lists.Lists.Lists, declared.lists.RaceItems.RaceItems}

-- the values of the ops of a race: those of the clock's thread, and an array for each caller
pub record RaceValues : Type 0 where
  pub keeper : List Data
  pub callers : List Data

-- the values of the ops of a scenario
pub record OpValues : Type 0 where
  pub ops : List Data
  pub race : Option RaceValues

-- the lists of a race
abbrev pub lists_in : Data → FoundOrFault RaceValues
lists_in race = read_both (field (codes "keeper") listed race) (field (codes "callers") arrays race) >>= (λ p. Ok (record { keeper = p.0; callers = p.1 }))

-- the lists of the value of the field `race`
unfoldable pub race_lists : Option Data → FoundOrFault RaceValues
race_lists value = of_kind value >>= lists_in

-- the list `ops` alone
abbrev pub lists_alone : Data → FoundOrFault OpValues
lists_alone d = field (codes "ops") listed d >>= (λ ops. Ok (record { ops = ops; race = None }))

-- the list `ops`, and those of the race
abbrev pub lists_with_race : Data → FoundOrFault OpValues
lists_with_race d = read_both (field (codes "ops") listed d) (field (codes "race") race_lists d) >>= (λ p. Ok (record { ops = p.0; race = Some p.1 }))

-- the lists of a value, with those of a race where one is wanted
unfoldable pub lists_found : Bool → Data → FoundOrFault OpValues
lists_found false d = lists_alone d
lists_found true d = lists_with_race d

-- how many callers' lists there are
abbrev pub list_count : Option RaceValues → ℕ
list_count None = 0
list_count (Some race) = length race.callers

-- ---- the lists of the code

-- the values of the ops of a race that the code found
abbrev pub race_seen : RaceItems → RaceValues
race_seen r = record { keeper = map view r.keeper.now; callers = map view r.callers.now }

-- the values of the ops of a scenario that the code found
abbrev pub lists_seen : Lists → OpValues
lists_seen l = record { ops = map view l.ops.now; race = option_map race_seen l.race }
