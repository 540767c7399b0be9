-- The ops of a scenario: a row for each, in groups. The ops of a group stand in the same lists.

use Rattle.std.specs.Prelude.{ℕ, ℤ, List, [], ◌∷◌, codes, Bool, true, Option, Some, None, Ok, Err, if◌then◌else◌}
use Rattle.std.specs.Str.{bytes_eq}
use Rattle.ert_defs.specs.{Mails.{first_of, others_of}, declared.settings.Reading.Reading, declared.timer.When.When, declared.timer.When.TheVariants.{After, At}}
use Rattle.serde_json.specs.Data.{Data}
use Rattle.ert_ops.specs.declared.op.Op.{Op}
use Rattle.ert_ops.specs.declared.op.Op.TheVariants.{Tick, Check, Finalize, Notify, Time, System, Offset, Info, Convert, Start, SendAfter, Cancel, CancelQuiet, Read, CancelAsync, ReadAsync, Serve, Advance, Deliver, Turn, Receive, Exit, Alive, Monitor, Demonitor}
use Rattle.ert_scenario.specs.Kinds.{FoundOrFault, ◌>>=◌, ◌▹◌, integer, word, unsigned_integer, boolean, called, one_word, two_words, reading_from, listed, text, end}
use Rattle.ert_scenario.specs.{Units.time_unit, declared.fault.Fault.TheVariants.Shape, declared.doer.ListDoer.ListDoer, declared.doer.ListDoer.TheVariants.{Everyone, Keeper, Caller}, declared.format.Format.Format}
use Rattle.ert_scenario.specs.{declared.format.Format.TheVariants.{One, Two}, declared.rows.timers.Origin.Origin, declared.rows.timers.Origin.TheVariants.{Now, Zero}, declared.rows.timers.StartArgs.StartArgs}

-- the name of an op, and how its arguments are read
abbrev pub OpRow : Type 0
OpRow = List ℕ × (List Data → FoundOrFault Op)

-- an op without arguments
abbrev pub without_args : Op → List Data → FoundOrFault Op
without_args op args = end args >>= (λ _. Ok op)

-- ---- the keeper's ops

-- the two arguments `mono` and `sys`
abbrev pub with_reading : (Reading → Op) → List Data → FoundOrFault Op
with_reading make args = reading_from args >>= (λ r. Ok (make r))

-- `["tick",mono,sys]` and the other ops that hand the clock a reading
unfoldable pub keeper_rows : List OpRow
keeper_rows =
    (codes "tick", with_reading (λ r. Tick r.mono r.sys))
    ∷ (codes "check", with_reading (λ r. Check r.mono r.sys))
    ∷ (codes "finalize", with_reading (λ r. Finalize r.mono r.sys))
    ∷ []

-- `["notify",process]`, which a keeper and a caller may do
unfoldable pub shared_rows : List OpRow
shared_rows = (codes "notify", λ args. one_word args >>= (λ process. Ok (Notify process))) ∷ []

-- ---- the schedulers' ops

-- `["serve",scheduler]`, and so on
unfoldable pub sched_rows : List OpRow
sched_rows =
    (codes "serve", λ args. one_word args >>= (λ sched. Ok (Serve sched)))
    ∷ (codes "advance", λ args. one_word args >>= (λ sched. Ok (Advance sched)))
    ∷ (codes "deliver", λ args. one_word args >>= (λ sched. Ok (Deliver sched)))
    ∷ (codes "turn", λ args. one_word args >>= (λ sched. Ok (Turn sched)))
    ∷ []

-- ---- the callers' ops

-- `["convert",time,from,to]`
unfoldable pub convert_row : List Data → FoundOrFault Op
convert_row args = (integer ▹ time_unit ▹ time_unit ▹ end) args >>= (λ p. Ok (Convert p.0 p.1.0 p.1.1.0))

-- `["time"]`, and so on
unfoldable pub clock_rows : List OpRow
clock_rows =
    (codes "time", without_args Time)
    ∷ (codes "system", without_args System)
    ∷ (codes "offset", without_args Offset)
    ∷ (codes "info", without_args Info)
    ∷ (codes "convert", convert_row)
    ∷ []

-- `["receive",process]`, and so on
unfoldable pub process_rows : List OpRow
process_rows =
    (codes "receive", λ args. one_word args >>= (λ process. Ok (Receive process)))
    ∷ (codes "exit", λ args. one_word args >>= (λ process. Ok (Exit process)))
    ∷ (codes "alive", λ args. one_word args >>= (λ process. Ok (Alive process)))
    ∷ (codes "monitor", λ args. one_word args >>= (λ process. Ok (Monitor process)))
    ∷ (codes "demonitor", λ args. two_words args >>= (λ p. Ok (Demonitor p.0 p.1)))
    ∷ []

-- what the milliseconds of a start count from, by name
abbrev pub since_names : List (List ℕ × Origin)
since_names = (codes "rel", Now) ∷ (codes "abs", Zero) ∷ []

-- `"rel"` or `"abs"`
unfoldable pub since : Option Data → FoundOrFault Origin
since value = text value >>= (λ name. called name since_names)

-- a deadline, so many milliseconds from there
abbrev pub when_from : Origin → ℤ → When
when_from Now ms = After ms
when_from Zero ms = At ms

-- the process that a message goes to, and the message
unfoldable pub message_args : List Data → FoundOrFault (ℕ × ℕ)
message_args args = (word ▹ unsigned_integer ▹ end) args >>= (λ p. Ok (p.0, p.1.0))

-- `"rel"` or `"abs"`, milliseconds, and then the process and the message
unfoldable pub deadline_args : List Data → FoundOrFault (When × (ℕ × ℕ))
deadline_args args = (since ▹ integer ▹ message_args) args >>= (λ p. Ok (when_from p.0 p.1.0, p.1.1))

-- the arguments of a start: label, scheduler, `"rel"` or `"abs"`, milliseconds, process, message
unfoldable pub start_args : List Data → FoundOrFault StartArgs
start_args args =
    (word ▹ word ▹ deadline_args) args
    >>= (λ p. Ok (record { label = p.0; wheel = p.1.0; when = p.1.1.0; dest = p.1.1.1.0; msg = p.1.1.1.1 }))

-- `["start",label,..]`
abbrev pub start_row : List Data → FoundOrFault Op
start_row args = start_args args >>= (λ s. Ok (Start s.label s.wheel s.when s.dest s.msg))

-- `["start",label,..]`, `["cancel",label]` and `["read",label]`
unfoldable pub timer_rows : List OpRow
timer_rows =
    (codes "start", start_row)
    ∷ (codes "cancel", λ args. one_word args >>= (λ label. Ok (Cancel label)))
    ∷ (codes "read", λ args. one_word args >>= (λ label. Ok (Read label)))
    ∷ []

-- `["send_after",label,..]`, as a start
abbrev pub send_after_row : List Data → FoundOrFault Op
send_after_row args = start_args args >>= (λ s. Ok (SendAfter s.label s.wheel s.when s.dest s.msg))

-- the label, the process, and whether it is told
unfoldable pub request_args : List Data → FoundOrFault (ℕ × ℕ × Bool)
request_args args = (word ▹ word ▹ boolean ▹ end) args >>= (λ p. Ok (p.0, p.1.0, p.1.1.0))

-- the ops in which the formats differ: in format 1 a process is always told
unfoldable pub rows_of_one : List OpRow
rows_of_one =
    (codes "cancel_async", λ args. two_words args >>= (λ p. Ok (CancelAsync p.0 p.1 true)))
    ∷ (codes "read_async", λ args. two_words args >>= (λ p. Ok (ReadAsync p.0 p.1 true)))
    ∷ []

-- in format 2 the op says whether, and there are messages alone and cancels whose answer isn't told
unfoldable pub rows_of_two : List OpRow
rows_of_two =
    (codes "cancel_async", λ args. request_args args >>= (λ p. Ok (CancelAsync p.0 p.1 p.2)))
    ∷ (codes "read_async", λ args. request_args args >>= (λ p. Ok (ReadAsync p.0 p.1 p.2)))
    ∷ (codes "send_after", send_after_row)
    ∷ (codes "cancel_quiet", λ args. one_word args >>= (λ label. Ok (CancelQuiet label)))
    ∷ []

-- the rows of a format alone
abbrev pub rows_of_format : Format → List OpRow
rows_of_format One = rows_of_one
rows_of_format Two = rows_of_two

-- ---- all ops

-- the groups whose ops may stand in a caller's list
abbrev pub caller_groups : Format → List (List OpRow)
caller_groups format = shared_rows ∷ clock_rows ∷ process_rows ∷ timer_rows ∷ rows_of_format format ∷ []

-- the groups whose ops may stand in a list
abbrev pub groups_of : ListDoer → Format → List (List OpRow)
groups_of Everyone format = keeper_rows ∷ sched_rows ∷ caller_groups format
groups_of Keeper format = keeper_rows ∷ shared_rows ∷ []
groups_of Caller format = caller_groups format

-- what the row of this name reads, where there is one
abbrev pub row_in : List ℕ → List OpRow → List Data → Option (FoundOrFault Op)
row_in name [] args = None
row_in name (row ∷ rows) args = if bytes_eq name row.0 then Some (row.1 args) else row_in name rows args

-- what was read, or else what comes next
abbrev pub or_next : Option (FoundOrFault Op) → FoundOrFault Op → FoundOrFault Op
or_next None next = next
or_next (Some found) next = found

-- the op of this name; a name that no group has is a shape fault
abbrev pub op_named : List ℕ → List (List OpRow) → List Data → FoundOrFault Op
op_named name [] args = Err Shape
op_named name (rows ∷ groups) args = or_next (row_in name rows args) (op_named name groups args)

-- the op that items are
abbrev pub op_from : Format → ListDoer → List Data → FoundOrFault Op
op_from format doer items = text (first_of items) >>= (λ name. op_named name (groups_of doer format) (others_of items))

-- the op that a value is, before the ranges of its numbers are tested
unfoldable pub op_of : Format → ListDoer → Data → FoundOrFault Op
op_of format doer d = listed (Some d) >>= op_from format doer
