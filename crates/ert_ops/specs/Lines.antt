-- The lines of replies.

use Rattle.std.specs.Prelude.{ℕ, true, false, List, codes, Option, Some, None}
use Rattle.std.specs.Fmt.{decimal, signed_decimal}
use Rattle.ert_effects.specs.declared.answers.Turned.{Turned}
use Rattle.ert_defs.specs.declared.{mail.Mail.Mail, mail.Mail.TheVariants.{Timeout, Bare, CancelDone, ReadDone, Change}, timer.TimerRef.TimerRef}
use Rattle.ert_ops.specs.Texts.{◌⋅◌, state_text, bool_text, moved_text, info_front, info_middle, offset_text, info_back}
use Rattle.ert_ops.specs.declared.reply.Reply.{Reply}
use Rattle.ert_ops.specs.declared.reply.Reply.TheVariants.{Tick, TickWide, Check, CheckWide, Finalize, FinalizeWide, Time, System, Offset, Info, Convert, ConvertTooWide, StartOk, StartBadArg, StartFull, SendAfterOk, SendAfterBadArg, SendAfterFull, Cancel, CancelQuiet, Read, CancelAsync, ReadAsync, Serve, Advance, Deliver, Turn, Received, ReceivedEmpty, ReceivedExited, Exit, Alive, Monitor, MonitorFull, Demonitor, Notify}

-- the end of a line that tells the milliseconds left of a timer, or that it wasn't armed
abbrev pub left_text : Option ℕ → List ℕ
left_text (Some n) = decimal n ⋅ codes "\n"
left_text None = codes "false\n"

-- the line of what a turn did
abbrev pub turn_line : Turned → List ℕ
turn_line t = codes "turn " ⋅ decimal t.served ⋅ codes " " ⋅ decimal t.to ⋅ codes " " ⋅ decimal t.expired ⋅ codes " " ⋅ decimal t.put ⋅ codes " " ⋅ decimal t.dropped ⋅ codes "\n"

-- the line of a message that was received; `name` gives the label of a reference
abbrev pub mail_line : (TimerRef → ℕ) → Mail → List ℕ
mail_line name (Timeout timer msg) = codes "receive timeout " ⋅ decimal (name timer) ⋅ codes " " ⋅ decimal msg ⋅ codes "\n"
mail_line name (Bare msg) = codes "receive message " ⋅ decimal msg ⋅ codes "\n"
mail_line name (CancelDone timer left) = codes "receive cancel_timer " ⋅ decimal (name timer) ⋅ codes " " ⋅ left_text left
mail_line name (ReadDone timer left) = codes "receive read_timer " ⋅ decimal (name timer) ⋅ codes " " ⋅ left_text left
mail_line name (Change monitor offset) = codes "receive change " ⋅ decimal monitor ⋅ codes " " ⋅ signed_decimal offset ⋅ codes "\n"

-- the line of a reply
abbrev pub line_of : (TimerRef → ℕ) → Reply → List ℕ
line_of name (Tick now shift) = codes "tick " ⋅ moved_text now shift
line_of name (TickWide value) = codes "tick offset_wide " ⋅ signed_decimal value ⋅ codes "\n"
line_of name (Check now shift) = codes "check " ⋅ moved_text now shift
line_of name (CheckWide value) = codes "check offset_wide " ⋅ signed_decimal value ⋅ codes "\n"
line_of name (Finalize old now shift) = codes "finalize " ⋅ state_text old ⋅ codes " " ⋅ moved_text now shift
line_of name (FinalizeWide value) = codes "finalize offset_wide " ⋅ signed_decimal value ⋅ codes "\n"
line_of name (Time now) = codes "time " ⋅ signed_decimal now ⋅ codes "\n"
line_of name (System time) = codes "system " ⋅ signed_decimal time ⋅ codes "\n"
line_of name (Offset offset state) = codes "offset " ⋅ offset_text offset state
line_of name (Info start end mode correction offset state) = info_front start end mode ⋅ info_middle correction ⋅ info_back offset state
line_of name (Convert value) = codes "convert " ⋅ signed_decimal value ⋅ codes "\n"
line_of name ConvertTooWide = codes "convert too_wide\n"
line_of name (StartOk timer) = codes "start ok\n"
line_of name StartBadArg = codes "start badarg\n"
line_of name StartFull = codes "start full\n"
line_of name (SendAfterOk timer) = codes "send_after ok\n"
line_of name SendAfterBadArg = codes "send_after badarg\n"
line_of name SendAfterFull = codes "send_after full\n"
line_of name (Cancel left) = codes "cancel " ⋅ left_text left
line_of name CancelQuiet = codes "cancel_quiet ok\n"
line_of name (Read left) = codes "read " ⋅ left_text left
line_of name CancelAsync = codes "cancel_async ok\n"
line_of name ReadAsync = codes "read_async ok\n"
line_of name (Serve true) = codes "serve 1\n"
line_of name (Serve false) = codes "serve 0\n"
line_of name (Advance to expired) = codes "advance " ⋅ decimal to ⋅ codes " " ⋅ decimal expired ⋅ codes "\n"
line_of name (Deliver put dropped) = codes "deliver " ⋅ decimal put ⋅ codes " " ⋅ decimal dropped ⋅ codes "\n"
line_of name (Turn turned) = turn_line turned
line_of name (Received mail) = mail_line name mail
line_of name ReceivedEmpty = codes "receive empty\n"
line_of name ReceivedExited = codes "receive exited\n"
line_of name (Exit true) = codes "exit ok\n"
line_of name (Exit false) = codes "exit already\n"
line_of name (Alive alive) = codes "alive " ⋅ bool_text alive ⋅ codes "\n"
line_of name (Monitor number) = codes "monitor " ⋅ decimal number ⋅ codes "\n"
line_of name MonitorFull = codes "monitor full\n"
line_of name (Demonitor stood) = codes "demonitor " ⋅ bool_text stood ⋅ codes "\n"
line_of name (Notify put) = codes "notify " ⋅ decimal put ⋅ codes "\n"
