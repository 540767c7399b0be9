-- The call that an op is, by caller n, in a way: which pieces of history it allows with its reply. Out of
-- memory is no reply.

use Rattle.std.specs.Prelude.{◌≡◌, ℕ, ℤ, FitsSigned, Bool, List, [], ◌∷◌, Option}
use Rattle.std.specs.Int.{w64}
use Rattle.ert_effects.specs.{Chains.{HasServedOne, HasDelivered, HasTurned, Exits}, ClockCalls.{MovesClock, IsTooWide, HasFinalized, TellsTime, TellsOffset, TellsSystemTime}, MailCalls.{Takes, IsMonitored, AreMonitorsFull, Demonitors}}
use Rattle.ert_effects.specs.{MailCalls.HasTold, RequestCalls.inbox_for, TimerCalls.{Reads, Cancels, IsStarted, IsBadArg, IsWheelFull}, Ways.Way, WheelCalls.{HasAdvanced, TellsAlive}, declared.answers.Taken.TheVariants.Mail as Taking}
use Rattle.ert_effects.specs.{declared.answers.Taken.TheVariants.{Empty, Exited}}
use Rattle.ert_defs.specs.{Entries.ask_entry, Lines.end_time, declared.entry.Act.TheVariants.{Plain, Force}, declared.entry.Actor.TheVariants.{Keeper, Wheel, Inbox, MailOf, Caller}, declared.entry.Entry.Entry, declared.mail.Request.Request}
use Rattle.ert_defs.specs.{declared.mail.RequestKind.RequestKind, declared.mail.RequestKind.TheVariants.{Cancel as ToCancel, Read as ToRead}, declared.settings.Mode.Mode, declared.settings.Reading.Reading}
use Rattle.ert_defs.specs.{declared.settings.Settings.Settings, declared.timer.Kind.Kind, declared.timer.Kind.TheVariants.{Wrapped, Bare}, declared.timer.Start.Start, declared.timer.When.When}
use Rattle.ert_defs.specs.declared.entry.Act.TheVariants as acts
use Rattle.ert_ops.specs.{Labels.{Labels, ref_of}, declared.op.Op.Op, declared.reply.Reply.Reply, declared.reply.Reply.TheVariants.{Tick, TickWide, Check, CheckWide, Finalize, FinalizeWide, Time, System, Offset, Info, Convert}}
use Rattle.ert_ops.specs.{declared.reply.Reply.TheVariants.{ConvertTooWide, StartOk, StartBadArg, StartFull, SendAfterOk, SendAfterBadArg, SendAfterFull, Cancel, CancelQuiet, Read, CancelAsync, ReadAsync, Serve, Advance, Deliver, Turn}}
use Rattle.ert_ops.specs.{declared.reply.Reply.TheVariants.{Received, ReceivedEmpty, ReceivedExited, Exit, Alive, Monitor, MonitorFull, Demonitor, Notify}, Conversions.converted}
use Rattle.ert_ops.specs.declared.op.Op.TheVariants as ops

-- the reading of the OS clocks that an op gives
abbrev pub reading_of : ℤ → ℤ → Reading
reading_of mono sys = record { mono = mono; sys = sys }

-- the start that an op asks for
abbrev pub start_for_op : When → ℕ → ℕ → Kind → Start
start_for_op when dest msg kind = record { when = when; dest = dest; msg = msg; kind = kind }

-- the request for the timer of a label that an op makes
abbrev pub request_for_op : RequestKind → Labels → ℕ → ℕ → Bool → Request
request_for_op kind ls l process info = record { kind = kind; timer = ref_of ls l; reply_to = process; info = info }

-- the settings are told, with the offset as it is read
pub record TellsSettings (g : Settings) (start end : ℤ) (mode : Mode) (correction : Bool) : Type 0 where
  pub starts : start ≡ g.start
  pub ends : end ≡ end_time g
  pub of_mode : mode ≡ g.mode
  pub corrects : correction ≡ g.correction

-- a converted time, or that it doesn't fit 64 bits; no entry is made
abbrev pub Converts : ℤ → ℕ → ℕ → Reply → List Entry → Type 0
Converts time from to (Convert value) m = (value ≡ converted time from to) × FitsSigned w64 value × (m ≡ [])
Converts time from to ConvertTooWide m = (FitsSigned w64 (converted time from to) → ⊥) × (m ≡ [])
Converts time from to reply m = ⊥

-- a request is put into the inbox of its scheduler
abbrev pub AsksFor : Settings → Way → ℕ → Request → List Entry → List Entry → Type 0
AsksFor g way n request h m = way (Inbox (inbox_for g request) ∷ []) (λ s es. es ≡ ask_entry n (inbox_for g request) request ∷ []) h m

-- what an op allows with its reply: the piece that comes after a history, with these labels. `tick` and
-- `check` are ticks; `start` and `send_after` start a wrapped and a bare timer; `cancel_async` and
-- `read_async` put a request, for the reference that the label stands for, into the inbox of its wheel, and
-- into the first if there is no such wheel; `cancel_quiet` is a cancel whose answer isn't printed; `info`
-- reads the offset and prints the settings; `convert` makes no entry. Out of memory is no reply
abbrev pub Calls : Settings → Way → ℕ → Labels → Op → Reply → List Entry → List Entry → Type 0
Calls g way n ls (ops.Tick mono sys) (Tick now shift) h m =
    way (Keeper ∷ []) (MovesClock g n (reading_of mono sys) Plain (record { now = now; shift = shift })) h m
Calls g way n ls (ops.Tick mono sys) (TickWide value) h m = way (Keeper ∷ []) (IsTooWide g (reading_of mono sys) Plain value) h m
Calls g way n ls (ops.Check mono sys) (Check now shift) h m =
    way (Keeper ∷ []) (MovesClock g n (reading_of mono sys) Force (record { now = now; shift = shift })) h m
Calls g way n ls (ops.Check mono sys) (CheckWide value) h m = way (Keeper ∷ []) (IsTooWide g (reading_of mono sys) Force value) h m
Calls g way n ls (ops.Finalize mono sys) (Finalize old now shift) h m =
    way (Keeper ∷ []) (HasFinalized g n (reading_of mono sys) old (record { now = now; shift = shift })) h m
Calls g way n ls (ops.Finalize mono sys) (FinalizeWide value) h m =
    way (Keeper ∷ []) (IsTooWide g (reading_of mono sys) acts.Finalize value) h m
Calls g way n ls (ops.Notify p) (Notify put) h m = way (MailOf p ∷ []) (λ s es. HasTold n p (s.mails p) put es) h m
Calls g way n ls ops.Time (Time now) h m = way [] (TellsTime g (Caller n) now) h m
Calls g way n ls ops.System (System time) h m = way [] (TellsSystemTime g (Caller n) time) h m
Calls g way n ls ops.Offset (Offset offset state) h m = way [] (TellsOffset g (Caller n) (offset, state)) h m
Calls g way n ls ops.Info (Info start end mode correction offset state) h m =
    TellsSettings g start end mode correction × way [] (TellsOffset g (Caller n) (offset, state)) h m
Calls g way n ls (ops.Convert time from to) reply h m = Converts time from to reply m
Calls g way n ls (ops.Start l w when p msg) (StartOk timer) h m =
    way (Wheel w ∷ []) (IsStarted g n w (start_for_op when p msg Wrapped) timer) h m
Calls g way n ls (ops.Start l w when p msg) StartBadArg h m =
    way (Wheel w ∷ []) (λ s es. IsBadArg g n (start_for_op when p msg Wrapped) es) h m
Calls g way n ls (ops.Start l w when p msg) StartFull h m = way (Wheel w ∷ []) (IsWheelFull g n w (start_for_op when p msg Wrapped)) h m
Calls g way n ls (ops.SendAfter l w when p msg) (SendAfterOk timer) h m =
    way (Wheel w ∷ []) (IsStarted g n w (start_for_op when p msg Bare) timer) h m
Calls g way n ls (ops.SendAfter l w when p msg) SendAfterBadArg h m =
    way (Wheel w ∷ []) (λ s es. IsBadArg g n (start_for_op when p msg Bare) es) h m
Calls g way n ls (ops.SendAfter l w when p msg) SendAfterFull h m =
    way (Wheel w ∷ []) (IsWheelFull g n w (start_for_op when p msg Bare)) h m
Calls g way n ls (ops.Cancel l) (Cancel left) h m = way [] (Cancels g (Caller n) (ref_of ls l) left) h m
Calls g way n ls (ops.CancelQuiet l) CancelQuiet h m = (left : Option ℕ) × way [] (Cancels g (Caller n) (ref_of ls l) left) h m
Calls g way n ls (ops.Read l) (Read left) h m = way [] (Reads g (Caller n) (ref_of ls l) left) h m
Calls g way n ls (ops.CancelAsync l p info) CancelAsync h m = AsksFor g way n (request_for_op ToCancel ls l p info) h m
Calls g way n ls (ops.ReadAsync l p info) ReadAsync h m = AsksFor g way n (request_for_op ToRead ls l p info) h m
Calls g way n ls (ops.Serve w) (Serve served) h m = HasServedOne g way w served h m
Calls g way n ls (ops.Advance w) (Advance to expired) h m = way (Wheel w ∷ []) (HasAdvanced w (to, expired)) h m
Calls g way n ls (ops.Deliver w) (Deliver put dropped) h m = HasDelivered g way w (put, dropped) h m
Calls g way n ls (ops.Turn w) (Turn turned) h m = HasTurned g way w turned h m
Calls g way n ls (ops.Receive p) (Received mail) h m = way (MailOf p ∷ []) (Takes g n p (Taking mail)) h m
Calls g way n ls (ops.Receive p) ReceivedEmpty h m = way (MailOf p ∷ []) (Takes g n p Empty) h m
Calls g way n ls (ops.Receive p) ReceivedExited h m = way (MailOf p ∷ []) (Takes g n p Exited) h m
Calls g way n ls (ops.Exit p) (Exit was_alive) h m = Exits g way n p was_alive h m
Calls g way n ls (ops.Alive p) (Alive alive) h m = way [] (TellsAlive g (Caller n) p alive) h m
Calls g way n ls (ops.Monitor p) (Monitor number) h m = way (MailOf p ∷ []) (λ s es. IsMonitored n p number es) h m
Calls g way n ls (ops.Monitor p) MonitorFull h m = way (MailOf p ∷ []) (λ s es. AreMonitorsFull n (s.mails p) es) h m
Calls g way n ls (ops.Demonitor p k) (Demonitor stood) h m = way (MailOf p ∷ []) (Demonitors g n p k stood) h m
Calls g way n ls op reply h m = ⊥
