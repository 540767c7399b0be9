-- Which replies tell what.

use Rattle.ert_ops.specs.declared.reply.Reply.{Reply}
use Rattle.ert_ops.specs.declared.reply.Reply.TheVariants.{Tick, TickWide, Check, CheckWide, Finalize, FinalizeWide, Time, System, Offset, Info, Convert, ConvertTooWide, StartOk, StartBadArg, StartFull, SendAfterOk, SendAfterBadArg, SendAfterFull, CancelQuiet, CancelAsync, ReadAsync, Serve, ReceivedEmpty, ReceivedExited, Exit, MonitorFull}

-- a reply tells times or the offset
abbrev pub IsClockReply : Reply → Type 0
IsClockReply (Tick now shift) = Unit {0}
IsClockReply (TickWide value) = Unit {0}
IsClockReply (Check now shift) = Unit {0}
IsClockReply (CheckWide value) = Unit {0}
IsClockReply (Finalize old now shift) = Unit {0}
IsClockReply (FinalizeWide value) = Unit {0}
IsClockReply (Time now) = Unit {0}
IsClockReply (System time) = Unit {0}
IsClockReply (Offset offset state) = Unit {0}
IsClockReply (Info start end mode correction offset state) = Unit {0}
IsClockReply (Convert value) = Unit {0}
IsClockReply _ = ⊥

-- a reply tells no value, so that its line is a fixed text
abbrev pub IsFixedReply : Reply → Type 0
IsFixedReply ConvertTooWide = Unit {0}
IsFixedReply (StartOk timer) = Unit {0}
IsFixedReply StartBadArg = Unit {0}
IsFixedReply StartFull = Unit {0}
IsFixedReply (SendAfterOk timer) = Unit {0}
IsFixedReply SendAfterBadArg = Unit {0}
IsFixedReply SendAfterFull = Unit {0}
IsFixedReply CancelQuiet = Unit {0}
IsFixedReply CancelAsync = Unit {0}
IsFixedReply ReadAsync = Unit {0}
IsFixedReply (Serve served) = Unit {0}
IsFixedReply ReceivedEmpty = Unit {0}
IsFixedReply ReceivedExited = Unit {0}
IsFixedReply (Exit was_alive) = Unit {0}
IsFixedReply MonitorFull = Unit {0}
IsFixedReply _ = ⊥
