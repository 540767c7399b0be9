-- A worked race with a history and its report: two callers cancel one timer at once. A function of src/contested.rt has
-- it in its contract, so that it is proved.

use Rattle.std.specs.Prelude.{pos, false, List, [], ◌∷◌, ◌++◌, Some, None}
use Rattle.ert_defs.specs.{Entries.{look_entry, arm_entry, mark_entry, peek_entry, cancel_entry, pick_entry, advanced_entry}, Timers.timer_at, declared.entry.Actor.TheVariants.{Caller, Sched}, declared.entry.Entry.Entry}
use Rattle.ert_defs.specs.{declared.settings.Settings.Settings, declared.timer.Kind.TheVariants.Wrapped, declared.timer.TimerRef.TimerRef, declared.timer.When.TheVariants.After}
use Rattle.ert_ops.specs.{Races.Race, declared.op.Op.Op, Calls.start_for_op, Worked.plain}
use Rattle.ert_ops.specs.declared.op.Op.TheVariants as ops

-- the settings: there are two callers
abbrev pub two_callers : Settings
two_callers = record plain { callers = 2 }

-- a timer of 5 milliseconds is started before the race
abbrev pub one_start : List Op
one_start = ops.Start 1 0 (After (pos 5)) 0 7 ∷ []

-- in it both callers cancel the timer
abbrev pub two_cancels : Race
two_cancels = record { turns = 0; keeper = ops.Cancel 1 ∷ []; callers = (ops.Cancel 1 ∷ []) ∷ [] }

-- a service may take any free slot for the timer, as slot 3
abbrev pub contested_timer : TimerRef
contested_timer = timer_at 0 3 1

-- the start
abbrev pub contest_start : List Entry
contest_start = look_entry (Caller 0) (pos 0)
    ∷ arm_entry 0 contested_timer (start_for_op (After (pos 5)) 0 7 Wrapped)
    ∷ mark_entry (Caller 0) 0 false false
    ∷ []

-- both callers read that 5 milliseconds are left, and then the cancel of caller 1 comes first
abbrev pub contested : List Entry
contested = look_entry (Caller 0) (pos 0)
    ∷ look_entry (Caller 1) (pos 0)
    ∷ peek_entry (Caller 0) contested_timer (Some 5)
    ∷ peek_entry (Caller 1) contested_timer (Some 5)
    ∷ cancel_entry (Caller 1) contested_timer (Some 5)
    ∷ cancel_entry (Caller 0) contested_timer None
    ∷ []

-- the scheduler's turn after the race, in which nothing is due
abbrev pub closing_turn : List Entry
closing_turn = pick_entry 0 None ∷ look_entry (Sched 0) (pos 0) ∷ advanced_entry 0 0 ∷ []

-- all of it
abbrev pub contest : List Entry
contest = contest_start ++ (contested ++ closing_turn)
