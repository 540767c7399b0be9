-- The fields of a scenario, and of the object in its field `race`.

use Rattle.std.specs.Prelude.{ℕ, List, [], ◌∷◌, codes, Bool, true, false, ◌||◌, Option, Some, None, is_none}
use Rattle.serde_json.specs.{Data.{Data, Items}, Find.{as_array, as_object, as_str}}
use Rattle.ert_scenario.specs.Kinds.{list_of}
use Rattle.ert_explain.specs.{Kinds.{no_integer, no_boolean, is_not_among}, declared.field.Field.Field, declared.field.Field.TheVariants.{Format, Mode, Correction, Start, Schedulers, Processes, Slots, First, Ops, Race, Turns, Keeper}}
use Rattle.ert_explain.specs.{declared.field.Field.TheVariants.Callers}

-- the name of its member
unfoldable pub member_name : Field → List ℕ
member_name Format = codes "format"
member_name Mode = codes "mode"
member_name Correction = codes "correction"
member_name Start = codes "start"
member_name Schedulers = codes "schedulers"
member_name Processes = codes "processes"
member_name Slots = codes "slots"
member_name First = codes "first"
member_name Ops = codes "ops"
member_name Race = codes "race"
member_name Turns = codes "turns"
member_name Keeper = codes "keeper"
member_name Callers = codes "callers"

-- whether it may not be absent
abbrev pub is_needed : Field → Bool
is_needed Mode = false
is_needed Correction = false
is_needed Start = false
is_needed Schedulers = false
is_needed Processes = false
is_needed Slots = false
is_needed _ = true

-- whether it is no array
abbrev pub no_array : Data → Bool
no_array d = is_none (as_array d)

-- whether it is no object
abbrev pub no_object : Data → Bool
no_object d = is_none (as_object d)

-- whether it is none of `"no"`, `"single"` and `"multi"`
unfoldable pub no_mode : Data → Bool
no_mode d = is_not_among (codes "no" ∷ codes "single" ∷ codes "multi" ∷ []) (as_str d)

-- whether the items aren't two integers
abbrev pub is_no_pair : List Data → Bool
is_no_pair [] = true
is_no_pair (mono ∷ []) = true
is_no_pair (mono ∷ sys ∷ []) = no_integer mono || no_integer sys
is_no_pair (mono ∷ sys ∷ d ∷ ds) = true

-- the same of an array, and true of other values
abbrev pub is_no_reading_by : Option Items → Bool
is_no_reading_by None = true
is_no_reading_by (Some items) = is_no_pair (list_of items)

-- whether it is no array of two integers
unfoldable pub is_no_reading : Data → Bool
is_no_reading d = is_no_reading_by (as_array d)

-- whether a value isn't of the kind of the field, whatever its range
abbrev pub is_wrong_value : Field → Data → Bool
is_wrong_value Format d = no_integer d
is_wrong_value Mode d = no_mode d
is_wrong_value Correction d = no_boolean d
is_wrong_value Start d = no_integer d
is_wrong_value Schedulers d = no_integer d
is_wrong_value Processes d = no_integer d
is_wrong_value Slots d = no_integer d
is_wrong_value First d = is_no_reading d
is_wrong_value Ops d = no_array d
is_wrong_value Race d = no_object d
is_wrong_value Turns d = no_integer d
is_wrong_value Keeper d = no_array d
is_wrong_value Callers d = no_array d
