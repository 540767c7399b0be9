-- What is wrong with the shape of the fields of a scenario.

use Rattle.std.specs.Prelude.{ℕ, ◌+◌, List, [], ◌∷◌, codes, Bool, true, false, Option, Some, None, is_none, if◌then◌else◌}
use Rattle.std.specs.Option.{option_or}
use Rattle.serde_json.specs.{Data.{Data, Members}, Find.{get, as_array, as_object}}
use Rattle.ert_scenario.specs.Fields.{is_field, is_among, race_fields, are_named}
use Rattle.ert_explain.specs.{FieldNames.{member_name, is_needed, is_wrong_value}, Places.items_at, declared.field.Field.Field, declared.field.Field.TheVariants.{Format, Mode, Correction, Start, Schedulers, Processes, Slots, First, Ops}}
use Rattle.ert_explain.specs.{declared.field.Field.TheVariants.{Race, Turns, Keeper, Callers}, declared.field_shape.FieldShape.FieldShape, declared.field_shape.FieldShape.TheVariants.{NoObject, OtherField, RaceGiven, Missing, Kind}}
use Rattle.ert_explain.specs.{declared.field_shape.FieldShape.TheVariants.{OtherRaceField, Caller}}

-- a fault, where the test holds
abbrev pub fault_if : Bool → FieldShape → Option FieldShape
fault_if true fault = Some fault
fault_if false fault = None

-- a field whose value this is, where it is there
abbrev pub value_shape : Field → Option Data → Option FieldShape
value_shape field None = fault_if (is_needed field) (Missing field)
value_shape field (Some d) = fault_if (is_wrong_value field d) (Kind field)

-- one field of an object
unfoldable pub field_shape : Field → Data → Option FieldShape
field_shape field d = value_shape field (get (member_name field) d)

-- the names of an object's members, where it is one
abbrev pub names_by : Option Members → Option FieldShape
names_by None = Some NoObject
names_by (Some members) = if are_named (is_field true) members then None else Some OtherField

-- an object has the names of fields alone
unfoldable pub names_shape : Data → Option FieldShape
names_shape d = names_by (as_object d)

-- a race, where none is wanted
abbrev pub given_by : Bool → Option Data → Option FieldShape
given_by race None = None
given_by race (Some d) = if race then None else Some RaceGiven

-- a race stands there only where one is wanted
unfoldable pub given_shape : Bool → Data → Option FieldShape
given_shape race d = given_by race (get (codes "race") d)

-- the fields but for the race
unfoldable pub plain_shape : Data → Option FieldShape
plain_shape d =
    option_or (option_or (option_or (option_or (option_or (option_or (option_or (option_or
    (field_shape Format d) (field_shape Mode d)) (field_shape Correction d)) (field_shape Start d)) (field_shape Schedulers d))
    (field_shape Processes d)) (field_shape Slots d)) (field_shape First d)) (field_shape Ops d)

-- the names of a race's members
abbrev pub race_names_by : Option Members → Option FieldShape
race_names_by None = None
race_names_by (Some members) = if are_named (is_among race_fields) members then None else Some OtherRaceField

-- an object has the names of fields of a race alone
unfoldable pub race_names_shape : Data → Option FieldShape
race_names_shape race = race_names_by (as_object race)

-- the lists of callers are arrays; this many come before them
abbrev pub caller_from : ℕ → List Data → Option FieldShape
caller_from caller [] = None
caller_from caller (list ∷ lists) = if is_none (as_array list) then Some (Caller (caller + 1)) else caller_from (caller + 1) lists

-- the fields of a race
unfoldable pub in_race_shape : Data → Option FieldShape
in_race_shape race =
    option_or (option_or (option_or (option_or (race_names_shape race) (field_shape Turns race)) (field_shape Keeper race))
    (field_shape Callers race)) (caller_from 0 (items_at (codes "callers") race))

-- the value of the field of the race, where it is there
abbrev pub race_by : Option Data → Data → Option FieldShape
race_by None d = Some (Missing Race)
race_by (Some race) d = option_or (field_shape Race d) (in_race_shape race)

-- the field of the race, where one is wanted
unfoldable pub race_shape : Bool → Data → Option FieldShape
race_shape false d = None
race_shape true d = race_by (get (codes "race") d) d

-- what is wrong with the shape of the fields, if anything is
abbrev pub fields_shape : Bool → Data → Option FieldShape
fields_shape race d = option_or (option_or (option_or (names_shape d) (given_shape race d)) (plain_shape d)) (race_shape race d)
