-- The message that tells an explanation.

use Rattle.std.specs.Prelude.{ℕ, ◌==◌, ◌++◌, List, [], codes, Bool, true, false, Option, Some, None, if◌then◌else◌, ℤ}
use Rattle.std.specs.Fmt.{decimal, signed_decimal}
use Rattle.ert_scenario.specs.declared.{limits.TheConstants.{MOST_SLOTS_IN_ALL, MOST_LISTS, MOST_TURNS, MOST_OPS}, scenario.ScenarioErr.ScenarioErr}
use Rattle.ert_scenario.specs.declared.scenario.ScenarioErr.TheVariants as refusals
use Rattle.ert_explain.specs.{Explained.shown_bytes, FieldNames.member_name, Shown.shown_value, Words.{op_word, param_word, param_kind, expected_text, signature_text, field_kind, list_text}, declared.cause.Cause.Cause}
use Rattle.ert_explain.specs.{declared.cause.Cause.TheVariants.{Json, Fields, FieldRange, Op, Argument, Label, Excess, Other}, declared.excess.Excess.Excess as TooMany, declared.explanation.Explanation.Explanation}
use Rattle.ert_explain.specs.{declared.field.Field.Field, declared.field_range.FieldRange.FieldRange as RangeOfField, declared.field_shape.FieldShape.FieldShape, declared.near.Near.Near, declared.op_name.OpName.OpName}
use Rattle.ert_explain.specs.{declared.op_range.Limits.Limits, declared.op_shape.OpShape.OpShape, declared.place.ListName.ListName}
use Rattle.ert_explain.specs.declared.excess.Excess.TheVariants as excesses
use Rattle.ert_explain.specs.declared.field_range.FieldRange.TheVariants as ranges
use Rattle.ert_explain.specs.declared.field_shape.FieldShape.TheVariants as shapes
use Rattle.ert_explain.specs.declared.near.Near.TheVariants as nears
use Rattle.ert_explain.specs.declared.op_shape.OpShape.TheVariants as ops

-- one text, and then another
infixr 20 ◌⋅◌
abbrev pub ◌⋅◌ : List ℕ → List ℕ → List ℕ
xs ⋅ ys = xs ++ ys

-- the number of the op, where the place isn't 0
abbrev pub op_place_text : ℕ → List ℕ
op_place_text place = if place == 0 then [] else codes "op " ⋅ decimal place ⋅ codes ": "

-- the number of the op, where the refusal is of one
abbrev pub place_text : ScenarioErr → List ℕ
place_text refusals.Json = []
place_text (refusals.Shape place) = op_place_text place
place_text (refusals.Range place) = op_place_text place
place_text (refusals.Limit place) = []
place_text refusals.NoMemory = []

-- the line and the column, and the place
abbrev pub head_text : Explanation → List ℕ
head_text e = (codes "scenario:" ⋅ decimal e.position.line ⋅ codes ":" ⋅ decimal e.position.column ⋅ codes ": ") ++ place_text e.refusal

-- ---- what stands before the part of the input that is shown, or all where none is

-- a field that isn't there
abbrev pub missing_text : Field → List ℕ
missing_text field = codes "the field \"" ⋅ member_name field ⋅ codes "\" is missing"

-- a caller's list that is no array
abbrev pub caller_text : ℕ → List ℕ
caller_text number = codes "the list of caller " ⋅ decimal number ⋅ codes " has to be an array"

-- of the shape of the fields
abbrev pub fields_front : FieldShape → List ℕ
fields_front shapes.NoObject = codes "a scenario has to be an object"
fields_front shapes.OtherField = codes "there is no field "
fields_front shapes.RaceGiven = codes "the field \"race\" is for the command race alone"
fields_front (shapes.Missing field) = missing_text field
fields_front (shapes.Kind field) = codes "\"" ⋅ member_name field ⋅ codes "\" is "
fields_front shapes.OtherRaceField = codes "a race has no field "
fields_front (shapes.Caller number) = caller_text number

-- of the range of a field
abbrev pub range_front : RangeOfField → List ℕ
range_front (ranges.Outside field limits) = codes "\"" ⋅ member_name field ⋅ codes "\" is "
range_front ranges.ManySlots = codes "all schedulers together have more than " ⋅ decimal MOST_SLOTS_IN_ALL ⋅ codes " slots"
range_front ranges.PartOfMillisecond = codes "\"start\" is "
range_front (ranges.Reading param limits) = param_word param ⋅ codes " is "

-- an op that is in format 2 only
abbrev pub late_text : OpName → List ℕ
late_text op = codes "\"" ⋅ op_word op ⋅ codes "\" is in format 2 only"

-- that an op may not stand somewhere
unfoldable pub not_in_text : OpName → List ℕ
not_in_text op = codes "\"" ⋅ op_word op ⋅ codes "\" may not stand in "

-- an op that may not stand in a list
abbrev pub elsewhere_text : OpName → ListName → List ℕ
elsewhere_text op list = not_in_text op ++ list_text list

-- of the shape of an op
abbrev pub op_front : OpShape → List ℕ
op_front ops.NoArray = codes "an op has to be an array"
op_front ops.NoName = codes "an op has to begin with its name"
op_front ops.Unknown = codes "there is no op "
op_front (ops.Late op) = late_text op
op_front (ops.Elsewhere op list) = elsewhere_text op list
op_front (ops.Count op signature count) = codes "\"" ⋅ op_word op ⋅ codes "\" takes " ⋅ signature_text signature ⋅ codes " and has " ⋅ decimal count
op_front (ops.Kind index param) = param_word param ⋅ codes " is "
op_front ops.Sound = codes "this is no op"

-- of too many of something
abbrev pub excess_front : TooMany → List ℕ
excess_front (excesses.Callers count) = codes "there are " ⋅ decimal count ⋅ codes " lists of callers, and at most " ⋅ decimal MOST_LISTS ⋅ codes " may be"
excess_front (excesses.Turns turns) = codes "there are " ⋅ signed_decimal turns ⋅ codes " turns, and at most " ⋅ decimal MOST_TURNS ⋅ codes " may be"
excess_front excesses.Ops = codes "there are more than " ⋅ decimal MOST_OPS ⋅ codes " ops"

-- of a cause
abbrev pub front_text : Cause → List ℕ
front_text (Json expected) = codes "expected " ⋅ expected_text expected ⋅ codes " here"
front_text (Fields shape) = fields_front shape
front_text (FieldRange range) = range_front range
front_text (Op shape) = op_front shape
front_text (Argument out) = param_word out.param ⋅ codes " is "
front_text (Label place) = codes "label "
front_text (Excess excess) = excess_front excess
front_text Other = codes "this is no scenario"

-- ---- the part of the input that is shown

-- whether the part is shown for a fault of the shape of the fields
abbrev pub shows_field : FieldShape → Bool
shows_field shapes.OtherField = true
shows_field (shapes.Kind field) = true
shows_field shapes.OtherRaceField = true
shows_field _ = false

-- the same for a field out of its range
abbrev pub shows_range : RangeOfField → Bool
shows_range ranges.ManySlots = false
shows_range _ = true

-- the same for the shape of an op
abbrev pub shows_op : OpShape → Bool
shows_op ops.Unknown = true
shows_op (ops.Kind index param) = true
shows_op _ = false

-- whether a part of the input is shown
abbrev pub is_showing : Cause → Bool
is_showing (Json expected) = false
is_showing (Fields shape) = shows_field shape
is_showing (FieldRange range) = shows_range range
is_showing (Op shape) = shows_op shape
is_showing (Argument out) = true
is_showing (Label place) = true
is_showing (Excess excess) = false
is_showing Other = false

-- the part, where it is shown
abbrev pub middle_text : Cause → List ℕ → List ℕ
middle_text cause part = if is_showing cause then shown_value part else []

-- ---- what stands behind it

-- what stands before the number from which one has to be
unfoldable pub from_front : List ℕ
from_front = codes "; it has to be from "

-- from this number one has to be
abbrev pub from_text : ℤ → List ℕ
from_text least = from_front ++ signed_decimal least

-- to which number one has to be
unfoldable pub to_text : ℤ → List ℕ
to_text greatest = codes " to " ⋅ signed_decimal greatest

-- from which number to which one has to be
abbrev pub between_text : ℤ → ℤ → List ℕ
between_text least greatest = from_text least ++ to_text greatest

-- where a number has to be
abbrev pub limits_text : Limits → List ℕ
limits_text limits = between_text limits.least limits.greatest

-- what a value has to be
abbrev pub has_to_text : List ℕ → List ℕ
has_to_text kind = codes "; it has to be " ⋅ kind

-- a hint at a name
abbrev pub hint_text : List ℕ → List ℕ
hint_text name = codes "; did you mean \"" ⋅ name ⋅ codes "\"?"

-- a hint at a known name that is near
abbrev pub near_text : Option Near → List ℕ
near_text None = []
near_text (Some (nears.Op op)) = hint_text (op_word op)
near_text (Some (nears.Field field)) = hint_text (member_name field)

-- of the shape of the fields
abbrev pub fields_back : FieldShape → Option Near → List ℕ
fields_back shapes.OtherField near = near_text near
fields_back shapes.OtherRaceField near = near_text near
fields_back (shapes.Kind field) near = has_to_text (field_kind field)
fields_back _ near = []

-- of the range of a field
abbrev pub range_back : RangeOfField → List ℕ
range_back (ranges.Outside field limits) = limits_text limits
range_back ranges.ManySlots = []
range_back ranges.PartOfMillisecond = codes "; it has to be a multiple of 1000000"
range_back (ranges.Reading param limits) = limits_text limits

-- of the shape of an op
abbrev pub op_back : OpShape → Option Near → List ℕ
op_back ops.Unknown near = near_text near
op_back (ops.Kind index param) near = has_to_text (param_kind param)
op_back _ near = []

-- of a cause
abbrev pub back_text : Cause → Option Near → List ℕ
back_text (Json expected) near = []
back_text (Fields shape) near = fields_back shape near
back_text (FieldRange range) near = range_back range
back_text (Op shape) near = op_back shape near
back_text (Argument out) near = limits_text out.limits
back_text (Label place) near = codes " is that of op " ⋅ decimal place
back_text (Excess excess) near = []
back_text Other near = []

-- the line of an explanation of these bytes
unfoldable pub message : List ℕ → Explanation → List ℕ
message bytes e = (((head_text e ++ front_text e.cause) ++ middle_text e.cause (shown_bytes bytes e)) ++ back_text e.cause e.near) ++ codes "\n"
