-- Which argument of an op is out of its range.

use Rattle.std.specs.Prelude.{ℕ, ◌+◌, ℤ, pos, negsuc, ◌-ℤ◌, int_lt, List, [], ◌∷◌, Bool, ◌||◌, Option, Some, None, is_some, option_map, option_and_then, if◌then◌else◌}
use Rattle.serde_json.specs.{Data.Data, Find.{as_number, as_i64, as_u64, as_str}}
use Rattle.ert_scenario.specs.Kinds.{items_in}
use Rattle.ert_explain.specs.{OpNames.op_called, Params.{signature_of, param_at}, declared.op_range.Counts.Counts, declared.op_range.Limits.Limits, declared.op_range.OutOfRange.OutOfRange, declared.param.Param.Param}
use Rattle.ert_explain.specs.{declared.param.Param.TheVariants.{Mono, Sys, Time, From, To, Label, Scheduler, Process, Monitor, Origin, Milliseconds, Message, Told}, declared.param.Signature.Signature}

-- from this number to that
abbrev pub between : ℤ → ℤ → Option Limits
between least greatest = Some (record { least = least; greatest = greatest })

-- the last of so many, which begin at 0
abbrev pub last_below : ℤ → ℤ
last_below count = if int_lt (pos 0) count then count -ℤ pos 1 else pos 0

-- where an argument has to be, if any number isn't right there
abbrev pub limits_of : Counts → Param → Option Limits
limits_of counts Mono = between (pos 0) (pos 4611686018427387903)
limits_of counts Sys = between (negsuc 2305843009213693950) (pos 2305843009213693951)
limits_of counts Time = None
limits_of counts From = between (pos 1) (pos 9223372036854775807)
limits_of counts To = between (pos 1) (pos 9223372036854775807)
limits_of counts Label = between (pos 0) (pos 999999)
limits_of counts Scheduler = between (pos 0) (last_below counts.schedulers)
limits_of counts Process = between (pos 0) (last_below counts.processes)
limits_of counts Monitor = between (pos 0) (pos 4294967295)
limits_of counts Origin = None
limits_of counts Milliseconds = None
limits_of counts Message = None
limits_of counts Told = None

-- whether an integer of 64 bits is outside of limits; else whether the value is an integer of 2^63 and more
abbrev pub is_out_by : Limits → Option ℤ → Data → Bool
is_out_by limits (Some number) d = int_lt number limits.least || int_lt limits.greatest number
is_out_by limits None d = is_some (option_and_then as_u64 (as_number d))

-- whether a value is an integer outside of limits
unfoldable pub is_out : Limits → Data → Bool
is_out limits d = is_out_by limits (option_and_then as_i64 (as_number d)) d

-- an argument, where it is outside of these limits
abbrev pub out_by : ℕ → Param → Option Limits → Data → Option OutOfRange
out_by index param None d = None
out_by index param (Some limits) d = if is_out limits d then Some (record { index = index; param = param; limits = limits }) else None

-- the same of what an argument says, where there is one of this index
abbrev pub out_at : Counts → ℕ → Option Param → Data → Option OutOfRange
out_at counts index None d = None
out_at counts index (Some param) d = out_by index param (limits_of counts param) d

-- the argument of this index, where it is out of its range
abbrev pub out_param : Signature → Counts → ℕ → Data → Option OutOfRange
out_param signature counts index d = out_at counts index (param_at signature index) d

-- an argument, or else what comes next
abbrev pub out_or : Option OutOfRange → Option OutOfRange → Option OutOfRange
out_or None next = next
out_or (Some out) next = Some out

-- the first argument that is out of its range; the arguments begin at this index
abbrev pub out_from : Signature → Counts → ℕ → List Data → Option OutOfRange
out_from signature counts index [] = None
out_from signature counts index (d ∷ ds) = out_or (out_param signature counts index d) (out_from signature counts (index + 1) ds)

-- the arguments of the op of this name
abbrev pub signature_in : Bool → Data → Option Signature
signature_in is_one name = option_map (signature_of is_one) (option_and_then op_called (as_str name))

-- the first argument that is out of its range, of those of this signature
abbrev pub args_in : Option Signature → Counts → List Data → Option OutOfRange
args_in None counts args = None
args_in (Some signature) counts args = out_from signature counts 0 args

-- the same of an op's items
abbrev pub items_range : Bool → Counts → List Data → Option OutOfRange
items_range is_one counts [] = None
items_range is_one counts (name ∷ args) = args_in (signature_in is_one name) counts args

-- the first argument of an op of format 1 or 2 that is out of its range
unfoldable pub op_range : Bool → Counts → Data → Option OutOfRange
op_range is_one counts d = items_range is_one counts (items_in d)
