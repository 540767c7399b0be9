-- The names of ops, and where each may stand.

use Rattle.std.specs.Prelude.{ℕ, List, [], ◌∷◌, codes, Bool, true, false, not, Option, Some, None, if◌then◌else◌}
use Rattle.std.specs.{Option.option_or, Str.bytes_eq}
use Rattle.ert_explain.specs.declared.{op_name.OpName.OpName, op_name.OpName.TheVariants.{Tick, Check, Finalize, Notify, Serve, Advance, Deliver, Turn, Time, System, Offset, Info, Convert, Receive, Exit, Alive, Monitor, Demonitor, Start}}
use Rattle.ert_explain.specs.declared.{op_name.OpName.TheVariants.{Cancel, Read, CancelAsync, ReadAsync, SendAfter, CancelQuiet}, place.ListName.ListName, place.ListName.TheVariants.{Ops, Keeper, Caller}}

-- what stands beside a name in a table
abbrev pub looked_up : {X : Type 0} → List ℕ → List (List ℕ × X) → Option X
looked_up name [] = None
looked_up name (row ∷ rows) = if bytes_eq name row.0 then Some row.1 else looked_up name rows

-- a table of ops by their names
abbrev pub NamedOps : Type 0
NamedOps = List (List ℕ × OpName)

-- the ops that the clock's thread may do
unfoldable pub keeper_names : NamedOps
keeper_names = (codes "tick", Tick) ∷ (codes "check", Check) ∷ (codes "finalize", Finalize) ∷ (codes "notify", Notify) ∷ []

-- the ops that a scheduler does
unfoldable pub sched_names : NamedOps
sched_names = (codes "serve", Serve) ∷ (codes "advance", Advance) ∷ (codes "deliver", Deliver) ∷ (codes "turn", Turn) ∷ []

-- the ops that ask the clock
unfoldable pub clock_names : NamedOps
clock_names = (codes "time", Time) ∷ (codes "system", System) ∷ (codes "offset", Offset) ∷ (codes "info", Info) ∷ (codes "convert", Convert) ∷ []

-- the ops that a process does
unfoldable pub process_names : NamedOps
process_names = (codes "receive", Receive) ∷ (codes "exit", Exit) ∷ (codes "alive", Alive) ∷ (codes "monitor", Monitor) ∷ (codes "demonitor", Demonitor) ∷ []

-- the ops on a timer that are in both formats
unfoldable pub timer_names : NamedOps
timer_names = (codes "start", Start) ∷ (codes "cancel", Cancel) ∷ (codes "read", Read) ∷ (codes "cancel_async", CancelAsync) ∷ (codes "read_async", ReadAsync) ∷ []

-- the ops that are in format 2 only
unfoldable pub late_names : NamedOps
late_names = (codes "send_after", SendAfter) ∷ (codes "cancel_quiet", CancelQuiet) ∷ []

-- the op of this name, in whichever format and list
abbrev pub op_called : List ℕ → Option OpName
op_called name =
    option_or (option_or (option_or (option_or (option_or (looked_up name keeper_names) (looked_up name sched_names)) (looked_up name clock_names))
    (looked_up name process_names)) (looked_up name timer_names)) (looked_up name late_names)

-- whether the clock's thread may do it
abbrev pub is_keepers : OpName → Bool
is_keepers Tick = true
is_keepers Check = true
is_keepers Finalize = true
is_keepers Notify = true
is_keepers _ = false

-- whether no caller may do it
abbrev pub is_scheds : OpName → Bool
is_scheds Tick = true
is_scheds Check = true
is_scheds Finalize = true
is_scheds Serve = true
is_scheds Advance = true
is_scheds Deliver = true
is_scheds Turn = true
is_scheds _ = false

-- whether it may stand in this list
abbrev pub may_stand : ListName → OpName → Bool
may_stand Ops op = true
may_stand Keeper op = is_keepers op
may_stand (Caller index) op = not (is_scheds op)

-- whether it is in format 2 only
abbrev pub is_late : OpName → Bool
is_late SendAfter = true
is_late CancelQuiet = true
is_late _ = false
