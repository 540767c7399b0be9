-- The replies to ops, by the answers of their calls.

use Rattle.std.specs.Prelude.{ℤ, Result, Ok, Err, pos}
use Rattle.ert_clock.specs.declared.clock.{ClockErr.ClockErr, ClockErr.TheVariants.OffsetWide, Moved.Moved}
use Rattle.ert_defs.specs.{Lines.end_time, declared.settings.OffsetState.OffsetState, declared.settings.Settings.Settings, declared.timer.Kind.Kind, declared.timer.Kind.TheVariants.{Wrapped, Bare}, declared.timer.TimerRef.TimerRef}
use Rattle.ert_effects.specs.declared.answers.{StartErr.StartErr, StartErr.TheVariants.BadArg, Taken.Taken, Taken.TheVariants.{Mail as Taking, Empty, Exited}}
use Rattle.ert_ops.specs.declared.reply.Reply.{Reply}
use Rattle.ert_ops.specs.declared.reply.Reply.TheVariants.{Tick, TickWide, Check, CheckWide, Finalize, FinalizeWide, Info, StartOk, StartBadArg, StartFull, SendAfterOk, SendAfterBadArg, SendAfterFull, Received, ReceivedEmpty, ReceivedExited}

-- of a tick of a valid reading
abbrev pub tick_told : Result Moved ClockErr → Reply
tick_told (Ok m) = Tick m.now m.shift
tick_told (Err (OffsetWide value)) = TickWide value
tick_told (Err _) = TickWide (pos 0)

-- of a forced one
abbrev pub check_told : Result Moved ClockErr → Reply
check_told (Ok m) = Check m.now m.shift
check_told (Err (OffsetWide value)) = CheckWide value
check_told (Err _) = CheckWide (pos 0)

-- of a finalization with a valid reading
abbrev pub finalize_told : Result (OffsetState × Moved) ClockErr → Reply
finalize_told (Ok p) = Finalize p.0 p.1.now p.1.shift
finalize_told (Err (OffsetWide value)) = FinalizeWide value
finalize_told (Err _) = FinalizeWide (pos 0)

-- the settings, with the offset as it was read
abbrev pub settings_told : Settings → ℤ → OffsetState → Reply
settings_told g offset state = Info g.start (end_time g) g.mode g.correction offset state

-- of a start of either kind, for which there was memory: a timer was started, or it had no deadline, or there was no
-- slot
abbrev pub start_told : Kind → Result TimerRef StartErr → Reply
start_told Wrapped (Ok timer) = StartOk timer
start_told Wrapped (Err BadArg) = StartBadArg
start_told Wrapped (Err _) = StartFull
start_told Bare (Ok timer) = SendAfterOk timer
start_told Bare (Err BadArg) = SendAfterBadArg
start_told Bare (Err _) = SendAfterFull

-- of a take
abbrev pub take_told : Taken → Reply
take_told (Taking mail) = Received mail
take_told Empty = ReceivedEmpty
take_told Exited = ReceivedExited
