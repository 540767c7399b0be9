-- The arguments of ops.

use Rattle.std.specs.Prelude.{ℕ, ◌==◌, Bool, true, false, Option, Some, None, if◌then◌else◌}
use Rattle.ert_explain.specs.declared.{op_name.OpName.OpName, op_name.OpName.TheVariants.{Tick, Check, Finalize, Notify, Serve, Advance, Deliver, Turn, Time, System, Offset, Info, Convert, Receive, Exit, Alive, Monitor, Demonitor, Start}}
use Rattle.ert_explain.specs.declared.{op_name.OpName.TheVariants.{Cancel, Read, CancelAsync, ReadAsync, SendAfter, CancelQuiet}, param.Param.Param, param.Signature.Signature}
use Rattle.ert_explain.specs.declared.param.Param.TheVariants as params
use Rattle.ert_explain.specs.declared.param.Signature.TheVariants as signatures

-- the arguments of an op of format 1, or of format 2
abbrev pub signature_of : Bool → OpName → Signature
signature_of is_one Tick = signatures.Reading
signature_of is_one Check = signatures.Reading
signature_of is_one Finalize = signatures.Reading
signature_of is_one Notify = signatures.OfProcess
signature_of is_one Serve = signatures.OfScheduler
signature_of is_one Advance = signatures.OfScheduler
signature_of is_one Deliver = signatures.OfScheduler
signature_of is_one Turn = signatures.OfScheduler
signature_of is_one Time = signatures.Nothing
signature_of is_one System = signatures.Nothing
signature_of is_one Offset = signatures.Nothing
signature_of is_one Info = signatures.Nothing
signature_of is_one Convert = signatures.Conversion
signature_of is_one Receive = signatures.OfProcess
signature_of is_one Exit = signatures.OfProcess
signature_of is_one Alive = signatures.OfProcess
signature_of is_one Monitor = signatures.OfProcess
signature_of is_one Demonitor = signatures.OfMonitor
signature_of is_one Start = signatures.Start
signature_of is_one Cancel = signatures.OfTimer
signature_of is_one Read = signatures.OfTimer
signature_of is_one CancelAsync = if is_one then signatures.Ask else signatures.AskTold
signature_of is_one ReadAsync = if is_one then signatures.Ask else signatures.AskTold
signature_of is_one SendAfter = signatures.Start
signature_of is_one CancelQuiet = signatures.OfTimer

-- how many arguments there are
abbrev pub arity_of : Signature → ℕ
arity_of signatures.Nothing = 0
arity_of signatures.Reading = 2
arity_of signatures.Conversion = 3
arity_of signatures.Start = 6
arity_of signatures.OfTimer = 1
arity_of signatures.Ask = 2
arity_of signatures.AskTold = 3
arity_of signatures.OfScheduler = 1
arity_of signatures.OfProcess = 1
arity_of signatures.OfMonitor = 2

-- the argument of this index, of one
abbrev pub first_param : ℕ → Param → Option Param
first_param index first = if index == 0 then Some first else None

-- the same, of two
abbrev pub second_param : ℕ → Param → Param → Option Param
second_param index first second = if index == 1 then Some second else first_param index first

-- the same, of three
abbrev pub third_param : ℕ → Param → Param → Param → Option Param
third_param index first second third = if index == 2 then Some third else second_param index first second

-- the same, of the six of a start
abbrev pub start_param : ℕ → Option Param
start_param index = if index == 3 then Some params.Milliseconds else (if index == 4 then Some params.Process else (if index == 5 then Some params.Message else third_param index params.Label params.Scheduler params.Origin))

-- the argument of this index
abbrev pub param_at : Signature → ℕ → Option Param
param_at signatures.Nothing index = None
param_at signatures.Reading index = second_param index params.Mono params.Sys
param_at signatures.Conversion index = third_param index params.Time params.From params.To
param_at signatures.Start index = start_param index
param_at signatures.OfTimer index = first_param index params.Label
param_at signatures.Ask index = second_param index params.Label params.Process
param_at signatures.AskTold index = third_param index params.Label params.Process params.Told
param_at signatures.OfScheduler index = first_param index params.Scheduler
param_at signatures.OfProcess index = first_param index params.Process
param_at signatures.OfMonitor index = second_param index params.Process params.Monitor
