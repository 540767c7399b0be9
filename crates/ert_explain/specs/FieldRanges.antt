-- Which field of a scenario is out of its range.

use Rattle.std.specs.Prelude.{ℕ, ℤ, pos, negsuc, int_lt, ◌*ℤ◌, List, [], ◌∷◌, codes, Bool, true, false, ◌&&◌, Option, Some, None, if◌then◌else◌, option_and_then}
use Rattle.std.specs.{Int.int_rem_euclid, Option.option_or, Ordering.int_eq}
use Rattle.serde_json.specs.{Data.Data, Find.{get, as_number, as_i64}}
use Rattle.ert_scenario.specs.declared.limits.TheConstants.{MOST_SCHEDULERS, MOST_PROCESSES, MOST_SLOTS, MOST_SLOTS_IN_ALL, MOST_TURNS}
use Rattle.ert_explain.specs.{FieldNames.member_name, OpRanges.is_out, Places.items_at, declared.field.Field.Field, declared.field.Field.TheVariants.{Format, Start, Schedulers, Processes, Slots, Turns}}
use Rattle.ert_explain.specs.{declared.field_range.FieldRange.FieldRange, declared.field_range.FieldRange.TheVariants.{Outside, ManySlots, PartOfMillisecond, Reading}, declared.op_range.Counts.Counts, declared.op_range.Limits.Limits}
use Rattle.ert_explain.specs.{declared.param.Param.Param, declared.param.Param.TheVariants.{Mono, Sys}}

-- limits from this number to that
abbrev pub from_to : ℤ → ℤ → Limits
from_to least greatest = record { least = least; greatest = greatest }

-- a field whose value this is, where it is there and isn't within limits
abbrev pub value_outside : Field → Limits → Option Data → Option FieldRange
value_outside field limits None = None
value_outside field limits (Some d) = if is_out limits d then Some (Outside field limits) else None

-- the number of a field, where it isn't within limits
unfoldable pub outside : Field → ℤ → ℤ → Data → Option FieldRange
outside field least greatest d = value_outside field (from_to least greatest) (get (member_name field) d)

-- an integer, or 0 where there is none
abbrev pub or_zero : Option ℤ → ℤ
or_zero None = pos 0
or_zero (Some n) = n

-- the integer that a value is, or 0; this one where there is no value
abbrev pub number_by : ℤ → Option Data → ℤ
number_by absent None = absent
number_by absent (Some d) = or_zero (option_and_then as_i64 (as_number d))

-- the integer that a field is
unfoldable pub field_number : Field → ℤ → Data → ℤ
field_number field absent d = number_by absent (get (member_name field) d)

-- how many schedulers and processes a value says
abbrev pub counts_given : Data → Counts
counts_given d = record { schedulers = field_number Schedulers (pos 1) d; processes = field_number Processes (pos 1) d }

-- the slots of all wheels together, where their count fits 64 bits
unfoldable pub slots_range : ℤ → ℤ → Option FieldRange
slots_range schedulers slots =
    if int_lt (pos MOST_SLOTS_IN_ALL) (schedulers *ℤ slots) && int_lt (schedulers *ℤ slots) (pos 9223372036854775808) then Some ManySlots else None

-- the counts
unfoldable pub sizes_range : Data → Option FieldRange
sizes_range d =
    option_or (option_or (option_or (outside Schedulers (pos 1) (pos MOST_SCHEDULERS) d) (outside Processes (pos 1) (pos MOST_PROCESSES) d)) (outside Slots (pos 1) (pos MOST_SLOTS) d))
    (slots_range (field_number Schedulers (pos 1) d) (field_number Slots (pos 1024) d))

-- a time that is no multiple of 1,000,000
abbrev pub is_part : ℤ → Option FieldRange
is_part start = if int_eq (int_rem_euclid start (pos 1000000)) (pos 0) then None else Some PartOfMillisecond

-- the start time
unfoldable pub start_range : Data → Option FieldRange
start_range d =
    option_or (outside Start (negsuc 288230376151711743) (pos 288230376151711744) d) (is_part (field_number Start (pos 0) d))

-- a number of a reading, where it isn't within limits
abbrev pub item_range : Param → ℤ → ℤ → Data → Option FieldRange
item_range param least greatest d = if is_out (from_to least greatest) d then Some (Reading param (from_to least greatest)) else None

-- the first reading
abbrev pub reading_range : List Data → Option FieldRange
reading_range [] = None
reading_range (mono ∷ []) = None
reading_range (mono ∷ sys ∷ []) = option_or (item_range Mono (pos 0) (pos 4611686018427387903) mono) (item_range Sys (negsuc 2305843009213693950) (pos 2305843009213693951) sys)
reading_range (mono ∷ sys ∷ d ∷ ds) = None

-- the turns of the race that this is, where it is there
abbrev pub turns_by : Bool → Option Data → Option FieldRange
turns_by race None = None
turns_by race (Some it) = if race then outside Turns (pos 0) (pos MOST_TURNS) it else None

-- the turns of a race
unfoldable pub turns_range : Bool → Data → Option FieldRange
turns_range race d = turns_by race (get (codes "race") d)

-- the first field that is out of its range, if any is
abbrev pub fields_range : Bool → Data → Option FieldRange
fields_range race d =
    option_or (option_or (option_or (option_or (outside Format (pos 1) (pos 2) d) (sizes_range d)) (start_range d)) (reading_range (items_at (codes "first") d))) (turns_range race d)
