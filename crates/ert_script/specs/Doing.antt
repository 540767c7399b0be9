-- What is answered to an op, by the maker of its call.

use Rattle.std.specs.Prelude.{◌≡◌, ℕ, List, [], ◌∷◌, Option, Some, None, Result, Ok, Err, IfOk, OnErr}
use Rattle.ert_defs.specs.declared.{entry.Actor.TheVariants.{Wheel, Inbox, MailOf}, entry.Entry.Entry, mail.Request.Request, mail.RequestKind.TheVariants.{Cancel as ToCancel, Read as ToRead}, memory.NoMemory.NoMemory}
use Rattle.ert_defs.specs.declared.{settings.Settings.Settings, timer.Kind.TheVariants.{Wrapped, Bare}, timer.Start.Start, timer.TimerRef.TimerRef}
use Rattle.ert_effects.specs.{Chains.{Serves, AdvancesWheel, Delivers, Turns}, MailCalls.{Monitors, Notifies}, RequestCalls.{inbox_for, Asks}, TimerCalls.Starts, Ways.{Growth, Grows, Way}}
use Rattle.ert_effects.specs.{declared.answers.MonitorErr.TheVariants.NoMemory as OutOfMemory}
use Rattle.ert_ops.specs.{declared.op.Op.Op, Calls.{Calls, start_for_op, request_for_op}, Labels.{Labels, ref_of}, declared.reply.Reply.Reply}
use Rattle.ert_ops.specs.declared.op.Op.TheVariants as ops
use Rattle.ert_ops.specs.declared.reply.Reply.TheVariants as replies

-- an op of a caller is on the clock
abbrev pub IsClockOp : Op → Type 0
IsClockOp (ops.Tick mono sys) = Unit {0}
IsClockOp (ops.Check mono sys) = Unit {0}
IsClockOp (ops.Finalize mono sys) = Unit {0}
IsClockOp ops.Time = Unit {0}
IsClockOp ops.System = Unit {0}
IsClockOp ops.Offset = Unit {0}
IsClockOp ops.Info = Unit {0}
IsClockOp (ops.Convert time from to) = Unit {0}
IsClockOp _ = ⊥

-- it starts a timer
abbrev pub IsStartOp : Op → Type 0
IsStartOp (ops.Start label wheel when dest msg) = Unit {0}
IsStartOp (ops.SendAfter label wheel when dest msg) = Unit {0}
IsStartOp _ = ⊥

-- it is for a timer that was started before
abbrev pub IsTimerOp : Op → Type 0
IsTimerOp (ops.Cancel label) = Unit {0}
IsTimerOp (ops.CancelQuiet label) = Unit {0}
IsTimerOp (ops.Read label) = Unit {0}
IsTimerOp (ops.CancelAsync label process info) = Unit {0}
IsTimerOp (ops.ReadAsync label process info) = Unit {0}
IsTimerOp _ = ⊥

-- it is a process's
abbrev pub IsProcessOp : Op → Type 0
IsProcessOp (ops.Notify process) = Unit {0}
IsProcessOp (ops.Receive process) = Unit {0}
IsProcessOp (ops.Exit process) = Unit {0}
IsProcessOp (ops.Alive process) = Unit {0}
IsProcessOp (ops.Monitor process) = Unit {0}
IsProcessOp (ops.Demonitor process monitor) = Unit {0}
IsProcessOp _ = ⊥

-- the label of the timer that an op cancels, reads or asks for
abbrev pub label_asked : Op → Option ℕ
label_asked (ops.Cancel label) = Some label
label_asked (ops.CancelQuiet label) = Some label
label_asked (ops.Read label) = Some label
label_asked (ops.CancelAsync label process info) = Some label
label_asked (ops.ReadAsync label process info) = Some label
label_asked _ = None

-- by these labels this is the timer that the op is for, if it is for one
abbrev pub IsTimerOf : Labels → Op → TimerRef → Type 0
IsTimerOf ls op timer = (label : ℕ) → label_asked op ≡ Some label → ref_of ls label ≡ timer

-- an op started a timer, by its reply
abbrev pub HasStarted : Op → Reply → Type 0
HasStarted (ops.Start label wheel when dest msg) (replies.StartOk timer) = Unit {0}
HasStarted (ops.SendAfter label wheel when dest msg) (replies.SendAfterOk timer) = Unit {0}
HasStarted op reply = ⊥

-- a timer of a wheel is started by a caller
abbrev pub StartsOnWheel : Settings → Way → ℕ → ℕ → Start → Growth
StartsOnWheel g way n wheel start h m = (timer : TimerRef) × way (Wheel wheel ∷ []) (Starts g n wheel start (Ok timer)) h m

-- a request isn't put into the inbox of its scheduler, because memory ran out
abbrev pub CannotAsk : Settings → Way → ℕ → Request → Growth
CannotAsk g way n request = way (Inbox (inbox_for g request) ∷ []) (Asks g n (inbox_for g request) request (Err (record {})))

-- what an op of caller n, with these labels, has made in a way where memory ran out in it: a start has started its
-- timer, for only then it takes memory; a scheduler has done what it could; another op that takes memory has made no
-- entry; and no other op ends so
abbrev pub BreaksOff : Settings → Way → ℕ → Labels → Op → Growth
BreaksOff g way n ls (ops.Notify process) h m = way (MailOf process ∷ []) (Notifies g n process (Err (record {}))) h m
BreaksOff g way n ls (ops.Start label wheel when dest msg) h m = StartsOnWheel g way n wheel (start_for_op when dest msg Wrapped) h m
BreaksOff g way n ls (ops.SendAfter label wheel when dest msg) h m = StartsOnWheel g way n wheel (start_for_op when dest msg Bare) h m
BreaksOff g way n ls (ops.CancelAsync label process info) h m = CannotAsk g way n (request_for_op ToCancel ls label process info) h m
BreaksOff g way n ls (ops.ReadAsync label process info) h m = CannotAsk g way n (request_for_op ToRead ls label process info) h m
BreaksOff g way n ls (ops.Serve sched) h m = Serves g way sched (Err (record {})) h m
BreaksOff g way n ls (ops.Advance sched) h m = AdvancesWheel g way sched (Err (record {})) h m
BreaksOff g way n ls (ops.Deliver sched) h m = Delivers g way sched (Err (record {})) h m
BreaksOff g way n ls (ops.Turn sched) h m = Turns g way sched (Err (record {})) h m
BreaksOff g way n ls (ops.Monitor process) h m = way (MailOf process ∷ []) (Monitors g n process (Err OutOfMemory)) h m
BreaksOff g way n ls op h m = ⊥

-- an op was done for a timer, or there was no memory for it, whatever the labels are by which it is that timer's: a
-- history grows by what the op allows with its reply, or by what it makes before it takes memory
pub record IsAnswered (g : Settings) (way : Way) (n : ℕ) (op : Op) (timer : TimerRef) (answer : Result Reply NoMemory) (f h : List Entry) : Type 0 where
  pub does : (ls : Labels) → IsTimerOf ls op timer → IfOk answer (λ reply. Grows (Calls g way n ls op reply) f h)
  pub fails : (ls : Labels) → IsTimerOf ls op timer → OnErr answer (Grows (BreaksOff g way n ls op) f h)
