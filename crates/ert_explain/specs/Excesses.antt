-- Of what a scenario has too many.

use Rattle.std.specs.Prelude.{ℕ, ℤ, pos, int_lt, nat_lt, List, length, codes, Bool, Option, Some, None, if◌then◌else◌}
use Rattle.serde_json.specs.{Data.Data, Find.get}
use Rattle.ert_scenario.specs.declared.limits.TheConstants.{MOST_LISTS, MOST_TURNS}
use Rattle.ert_explain.specs.{FieldRanges.field_number, Places.items_at, declared.excess.Excess.Excess, declared.excess.Excess.TheVariants.{Callers, Turns, Ops}}
use Rattle.ert_explain.specs.declared.field.Field.TheVariants as fields

-- that of a race with so many callers' lists and turns
abbrev pub race_excess : ℕ → ℤ → Excess
race_excess callers turns = if nat_lt MOST_LISTS callers then Callers callers else (if int_lt (pos MOST_TURNS) turns then Turns turns else Ops)

-- that of the race that this is, where it is there and wanted
abbrev pub excess_by : Bool → Option Data → Excess
excess_by race None = Ops
excess_by race (Some it) = if race then race_excess (length (items_at (codes "callers") it)) (field_number fields.Turns (pos 0) it) else Ops

-- of what a scenario with such a fault has too many
unfoldable pub excess_of : Bool → Data → Excess
excess_of race d = excess_by race (get (codes "race") d)
