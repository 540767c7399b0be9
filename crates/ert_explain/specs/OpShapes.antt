-- What is wrong with the shape of an op.

use Rattle.std.specs.Prelude.{ℕ, ◌+◌, ◌==◌, List, [], ◌∷◌, length, Bool, not, ◌&&◌, Option, Some, None, if◌then◌else◌}
use Rattle.serde_json.specs.{Data.{Data, Items}, Find.{as_array, as_str}}
use Rattle.ert_scenario.specs.Kinds.{list_of}
use Rattle.ert_explain.specs.{Kinds.is_wrong, OpNames.{op_called, may_stand, is_late}, Params.{signature_of, arity_of, param_at}, declared.op_name.OpName.OpName, declared.op_shape.OpShape.OpShape}
use Rattle.ert_explain.specs.{declared.op_shape.OpShape.TheVariants.{NoArray, NoName, Unknown, Late, Elsewhere, Count, Kind, Sound}, declared.param.Param.Param, declared.param.Signature.Signature, declared.place.ListName.ListName}

-- what an argument says, where it isn't of its kind
abbrev pub wrong_by : Option Param → Data → Option Param
wrong_by None d = None
wrong_by (Some param) d = if is_wrong param d then Some param else None

-- what the argument of this index says, where it isn't of its kind
abbrev pub wrong_param : Signature → ℕ → Data → Option Param
wrong_param signature index d = wrong_by (param_at signature index) d

-- an argument with its index, or else what comes next
abbrev pub wrong_or : ℕ → Option Param → Option (ℕ × Param) → Option (ℕ × Param)
wrong_or index None next = next
wrong_or index (Some param) next = Some (index, param)

-- the first argument that isn't of its kind, with its index; the arguments begin at this index
abbrev pub wrong_from : Signature → ℕ → List Data → Option (ℕ × Param)
wrong_from signature index [] = None
wrong_from signature index (d ∷ ds) = wrong_or index (wrong_param signature index d) (wrong_from signature (index + 1) ds)

-- the fault of an argument, where one has it
abbrev pub kind_shape : Option (ℕ × Param) → OpShape
kind_shape None = Sound
kind_shape (Some wrong) = Kind wrong.0 wrong.1

-- what is wrong with the arguments of an op that there is, and may stand here
abbrev pub counted_shape : OpName → Signature → List Data → OpShape
counted_shape op signature args =
    if length args == arity_of signature then kind_shape (wrong_from signature 0 args) else Count op signature (length args)

-- what is wrong with an op that there is
unfoldable pub args_shape : Bool → ListName → OpName → List Data → OpShape
args_shape is_one list op args =
    if is_one && is_late op then Late op
    else (if may_stand list op then counted_shape op (signature_of is_one op) args else Elsewhere op list)

-- the same, where there is one
abbrev pub called_shape : Bool → ListName → Option OpName → List Data → OpShape
called_shape is_one list None args = Unknown
called_shape is_one list (Some op) args = args_shape is_one list op args

-- the same of an op's name, where its first item is a string
unfoldable pub named_shape : Bool → ListName → Option (List ℕ) → List Data → OpShape
named_shape is_one list None args = NoName
named_shape is_one list (Some name) args = called_shape is_one list (op_called name) args

-- the same of its items
abbrev pub items_shape : Bool → ListName → List Data → OpShape
items_shape is_one list [] = NoName
items_shape is_one list (name ∷ args) = named_shape is_one list (as_str name) args

-- the same, where it is an array
abbrev pub shape_by : Bool → ListName → Option Items → OpShape
shape_by is_one list None = NoArray
shape_by is_one list (Some items) = items_shape is_one list (list_of items)

-- what is wrong with the shape of an op in this list, of format 1 or 2
unfoldable pub op_shape : Bool → ListName → Data → OpShape
op_shape is_one list d = shape_by is_one list (as_array d)
