-- The value that a refusal is about.

use Rattle.std.specs.Prelude.{ℕ, ◌-◌, List, [], ◌∷◌, codes, Bool, Option, Some, None, option_and_then, slice_get}
use Rattle.std.specs.Option.{option_or}
use Rattle.serde_json.specs.{Data.Data, Find.get}
use Rattle.ert_scenario.specs.{Kinds.items_in, declared.scenario.ScenarioErr.ScenarioErr}
use Rattle.ert_scenario.specs.declared.scenario.ScenarioErr.TheVariants as refusals
use Rattle.ert_explain.specs.{FieldNames.member_name, Places.{OpSeen, items_at, op_at}, declared.cause.Cause.Cause, declared.cause.Cause.TheVariants.{Fields, FieldRange, Op, Argument, Label}, declared.field.Field.Field}
use Rattle.ert_explain.specs.{declared.field.Field.TheVariants.{Start, First, Turns, Keeper, Callers}, declared.field_range.FieldRange.FieldRange as RangeOfField, declared.field_shape.FieldShape.FieldShape}
use Rattle.ert_explain.specs.{declared.op_shape.OpShape.OpShape, declared.param.Param.Param, declared.param.Param.TheVariants.Mono}
use Rattle.ert_explain.specs.declared.field_range.FieldRange.TheVariants as ranges
use Rattle.ert_explain.specs.declared.field_shape.FieldShape.TheVariants as shapes
use Rattle.ert_explain.specs.declared.op_shape.OpShape.TheVariants as ops

-- the value of a field of a race
abbrev pub race_value : Field → Data → Option Data
race_value field d = option_and_then (get (member_name field)) (get (codes "race") d)

-- the value of a field
abbrev pub field_value : Field → Data → Option Data
field_value Turns d = race_value Turns d
field_value Keeper d = race_value Keeper d
field_value Callers d = race_value Callers d
field_value field d = get (member_name field) d

-- which item of the first reading it is
abbrev pub reading_index : Param → ℕ
reading_index Mono = 0
reading_index param = 1

-- the value of a field that has a fault of the shape
abbrev pub shape_value : FieldShape → Data → Option Data
shape_value (shapes.Kind field) d = field_value field d
shape_value shape d = None

-- the value of a field that is out of its range
abbrev pub range_value : RangeOfField → Data → Option Data
range_value (ranges.Outside field limits) d = field_value field d
range_value ranges.PartOfMillisecond d = field_value Start d
range_value (ranges.Reading param limits) d = slice_get (items_at (member_name First) d) (reading_index param)
range_value ranges.ManySlots d = None

-- the value of the field that a cause is about
abbrev pub value_in_fields : Cause → Data → Option Data
value_in_fields (Fields shape) d = shape_value shape d
value_in_fields (FieldRange range) d = range_value range d
value_in_fields cause d = None

-- the argument of an op that has this index
abbrev pub arg_at : ℕ → List Data → Option Data
arg_at index [] = None
arg_at index (name ∷ args) = slice_get args index

-- the item of an op that has a fault of the shape
abbrev pub shape_item : OpShape → List Data → Option Data
shape_item ops.Unknown items = slice_get items 0
shape_item (ops.Kind index param) items = arg_at index items
shape_item shape items = None

-- the item of an op that a cause is about
abbrev pub value_in_items : Cause → List Data → Option Data
value_in_items (Op shape) items = shape_item shape items
value_in_items (Argument out) items = arg_at out.index items
value_in_items (Label place) items = arg_at 0 items
value_in_items cause items = None

-- the items of an op
abbrev pub seen_items : Option OpSeen → List Data
seen_items None = []
seen_items (Some p) = items_in p.op

-- the items of the op at the place of a refusal
abbrev pub items_of_op : Bool → Data → ScenarioErr → List Data
items_of_op race d (refusals.Shape place) = seen_items (op_at race d (place - 1))
items_of_op race d (refusals.Range place) = seen_items (op_at race d (place - 1))
items_of_op race d refusal = []

-- the value that a cause is about, where it is about one
abbrev pub refused_value : Bool → Data → ScenarioErr → Cause → Option Data
refused_value race d refusal cause = option_or (value_in_fields cause d) (value_in_items cause (items_of_op race d refusal))
