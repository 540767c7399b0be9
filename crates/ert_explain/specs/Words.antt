-- What things are called in a message.

use Rattle.std.specs.Prelude.{ℕ, List, codes}
use Rattle.ert_explain.specs.declared.{expected.Expected.Expected, field.Field.Field, op_name.OpName.OpName, param.Param.Param, param.Signature.Signature, place.ListName.ListName}
use Rattle.ert_explain.specs.declared.expected.Expected.TheVariants as expects
use Rattle.ert_explain.specs.declared.field.Field.TheVariants as fields
use Rattle.ert_explain.specs.declared.op_name.OpName.TheVariants as names
use Rattle.ert_explain.specs.declared.param.Param.TheVariants as params
use Rattle.ert_explain.specs.declared.param.Signature.TheVariants as signatures
use Rattle.ert_explain.specs.declared.place.ListName.TheVariants as lists

-- the name of an op
unfoldable pub op_word : OpName → List ℕ
op_word names.Tick = codes "tick"
op_word names.Check = codes "check"
op_word names.Finalize = codes "finalize"
op_word names.Notify = codes "notify"
op_word names.Serve = codes "serve"
op_word names.Advance = codes "advance"
op_word names.Deliver = codes "deliver"
op_word names.Turn = codes "turn"
op_word names.Time = codes "time"
op_word names.System = codes "system"
op_word names.Offset = codes "offset"
op_word names.Info = codes "info"
op_word names.Convert = codes "convert"
op_word names.Receive = codes "receive"
op_word names.Exit = codes "exit"
op_word names.Alive = codes "alive"
op_word names.Monitor = codes "monitor"
op_word names.Demonitor = codes "demonitor"
op_word names.Start = codes "start"
op_word names.Cancel = codes "cancel"
op_word names.Read = codes "read"
op_word names.CancelAsync = codes "cancel_async"
op_word names.ReadAsync = codes "read_async"
op_word names.SendAfter = codes "send_after"
op_word names.CancelQuiet = codes "cancel_quiet"

-- what an argument is called
unfoldable pub param_word : Param → List ℕ
param_word params.Mono = codes "mono"
param_word params.Sys = codes "sys"
param_word params.Time = codes "time"
param_word params.From = codes "from"
param_word params.To = codes "to"
param_word params.Label = codes "label"
param_word params.Scheduler = codes "scheduler"
param_word params.Process = codes "process"
param_word params.Monitor = codes "monitor"
param_word params.Origin = codes "origin"
param_word params.Milliseconds = codes "milliseconds"
param_word params.Message = codes "message"
param_word params.Told = codes "told"

-- what kind of value an argument has to be
unfoldable pub param_kind : Param → List ℕ
param_kind params.Mono = codes "an integer of 64 bits"
param_kind params.Sys = codes "an integer of 64 bits"
param_kind params.Time = codes "an integer of 64 bits"
param_kind params.From = codes "the name of a unit or its parts per second"
param_kind params.To = codes "the name of a unit or its parts per second"
param_kind params.Label = codes "an integer of 64 bits"
param_kind params.Scheduler = codes "an integer of 64 bits"
param_kind params.Process = codes "an integer of 64 bits"
param_kind params.Monitor = codes "an integer of 64 bits"
param_kind params.Origin = codes "\"rel\" or \"abs\""
param_kind params.Milliseconds = codes "an integer of 64 bits"
param_kind params.Message = codes "an integer from 0 to 18446744073709551615"
param_kind params.Told = codes "true or false"

-- what the arguments are called
unfoldable pub signature_text : Signature → List ℕ
signature_text signatures.Nothing = codes "no arguments"
signature_text signatures.Reading = codes "2 arguments (mono, sys)"
signature_text signatures.Conversion = codes "3 arguments (time, from, to)"
signature_text signatures.Start = codes "6 arguments (label, scheduler, origin, milliseconds, process, message)"
signature_text signatures.OfTimer = codes "1 argument (label)"
signature_text signatures.Ask = codes "2 arguments (label, process)"
signature_text signatures.AskTold = codes "3 arguments (label, process, told)"
signature_text signatures.OfScheduler = codes "1 argument (scheduler)"
signature_text signatures.OfProcess = codes "1 argument (process)"
signature_text signatures.OfMonitor = codes "2 arguments (process, monitor)"

-- what could stand where a text stops being JSON
unfoldable pub expected_text : Expected → List ℕ
expected_text expects.Value = codes "a value"
expected_text expects.ValueOrBracket = codes "a value or ']'"
expected_text expects.Name = codes "a name in quotes"
expected_text expects.NameOrBrace = codes "a name in quotes or '}'"
expected_text expects.Colon = codes "':'"
expected_text expects.CommaOrBracket = codes "',' or ']'"
expected_text expects.CommaOrBrace = codes "',' or '}'"
expected_text expects.End = codes "the end of the input"
expected_text expects.Quote = codes "'\"' at the end of the string"
expected_text expects.Character = codes "no control character"
expected_text expects.Escape = codes "an escape as \\n or \\u0041"
expected_text expects.HexDigit = codes "a hexadecimal digit"
expected_text expects.Digit = codes "a digit"
expected_text expects.LessNesting = codes "at most 127 arrays and objects in one another"
expected_text expects.Utf8 = codes "a character in UTF-8"
expected_text expects.WholePairs = codes "whole pairs of surrogates in the string"
expected_text expects.SmallerNumber = codes "a number that fits a float of 64 bits"

-- what kind of value a field has to be
unfoldable pub field_kind : Field → List ℕ
field_kind fields.Format = codes "an integer of 64 bits"
field_kind fields.Mode = codes "\"no\", \"single\" or \"multi\""
field_kind fields.Correction = codes "true or false"
field_kind fields.Start = codes "an integer of 64 bits"
field_kind fields.Schedulers = codes "an integer of 64 bits"
field_kind fields.Processes = codes "an integer of 64 bits"
field_kind fields.Slots = codes "an integer of 64 bits"
field_kind fields.First = codes "[mono, sys], two integers of 64 bits"
field_kind fields.Ops = codes "an array"
field_kind fields.Race = codes "an object"
field_kind fields.Turns = codes "an integer of 64 bits"
field_kind fields.Keeper = codes "an array"
field_kind fields.Callers = codes "an array"

-- what a list is called
unfoldable pub list_text : ListName → List ℕ
list_text lists.Ops = codes "ops"
list_text lists.Keeper = codes "the list of the keeper"
list_text (lists.Caller number) = codes "the list of a caller"
