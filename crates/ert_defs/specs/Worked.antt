-- Worked histories: some short histories that were written by hand. `ert_laws` says what the model says of them.

use Rattle.std.specs.Prelude.{ℕ, ℤ, pos, negsuc, true, false, List, [], ◌∷◌, ◌++◌, Option, Some, None}
use Rattle.ert_defs.specs.declared.{entry.Act.Act, entry.Act.TheVariants.{Plain, Force}, entry.Actor.Actor, entry.Actor.TheVariants.{Keeper, Wheel, Inbox, Sched, MailOf, Caller}, entry.Entry.Entry, entry.Event.Event}
use Rattle.ert_defs.specs.declared.{entry.Event.TheVariants.{Tick, Shift, Look, Arm, Peek, Cancel, Expire, Orphan, Deliver, Mark, Advanced, Ask, Pick, Answer, Take, Watch, Tell}, mail.Mail.TheVariants.{Timeout, CancelDone, Change}}
use Rattle.ert_defs.specs.declared.{mail.Request.Request, mail.RequestKind.TheVariants.Cancel as ToCancel, settings.Mode.Mode, settings.OffsetState.TheVariants.Volatile, settings.Reading.Reading, settings.Settings.Settings}
use Rattle.ert_defs.specs.declared.{timer.Kind.TheVariants.Wrapped, timer.Start.Start, timer.TimerRef.TimerRef, timer.When.TheVariants.After}

-- the settings: no time correction, the start time and the first reading 0, and one of each kind
abbrev pub small : Mode → Settings
small mode = record {
  mode = mode;
  correction = false;
  start = pos 0;
  schedulers = 1;
  processes = 1;
  slots = 1;
  looks = 1;
  callers = 1;
  first = record { mono = pos 0; sys = pos 0 };
}

-- the first timer of the only slot
abbrev pub timer : TimerRef
timer = record { wheel = 0; slot = 0; generation = 1 }

-- a start so many milliseconds from now, of a message for the only process
abbrev pub start_after : ℕ → Start
start_after delay = record { when = After (pos delay); dest = 0; msg = 7; kind = Wrapped }

-- an entry by the only caller
abbrev pub by_caller : Option Actor → Event → Entry
by_caller with event = record { by = Caller 0; with = with; event = event }

-- an entry by the only scheduler
abbrev pub by_sched : Option Actor → Event → Entry
by_sched with event = record { by = Sched 0; with = with; event = event }

-- a tick to a time, at this OS system time
abbrev pub tick : Act → ℤ → ℤ → Entry
tick act sys now =
    let reading : Reading = record { mono = pos 0; sys = sys } in
    record { by = Keeper; with = Some (Caller 0); event = Tick reading act now }

-- the time comes to 1 millisecond, and the caller looks and starts a timer
abbrev pub begun : ℕ → List Entry
begun delay =
    tick Plain (pos 1000000) (pos 1000000)
    ∷ by_caller None (Look (pos 1000000))
    ∷ by_caller (Some (Wheel 0)) (Arm timer (start_after delay))
    ∷ by_caller None (Mark 0 false false)
    ∷ []

-- then the scheduler looks
abbrev pub started : ℕ → List Entry
started delay = begun delay ++ by_sched None (Look (pos 1000000)) ∷ []

-- a timer expires, and its message is put into the mailbox and taken
abbrev pub expiry : List Entry
expiry =
    by_sched (Some (Wheel 0)) (Expire timer)
    ∷ by_sched (Some (Wheel 0)) (Advanced 0 1)
    ∷ by_sched None (Mark 0 false false)
    ∷ by_sched (Some (MailOf 0)) (Deliver timer)
    ∷ by_caller None (Mark 0 false false)
    ∷ by_caller (Some (MailOf 0)) (Take 0 (Some (Timeout timer 7)))
    ∷ []

-- which a timer of no time does at once
abbrev pub delivered : List Entry
delivered = started 0 ++ expiry

-- a timer is read with 5 milliseconds left
abbrev pub read : List Entry
read = begun 5 ++ by_caller None (Look (pos 1000000)) ∷ by_caller None (Peek timer (Some 5)) ∷ []

-- and cancelled with as many; it can't be cancelled again
abbrev pub cancelled : List Entry
cancelled = read ++ by_caller None (Cancel timer (Some 5)) ∷ by_caller None (Cancel timer None) ∷ []

-- a process exits, and a timer is started for it
abbrev pub exit : List Entry
exit =
    by_caller None (Mark 0 true false)
    ∷ by_caller None (Look (pos 0))
    ∷ by_caller (Some (Wheel 0)) (Arm timer (start_after 5))
    ∷ by_caller None (Mark 0 false true)
    ∷ []

-- the timer is cancelled for that
abbrev pub orphaned : List Entry
orphaned = exit ++ by_caller (Some (Wheel 0)) (Orphan timer) ∷ []

-- an asynchronous cancel of the timer, with an answer
abbrev pub request : Request
request = record { kind = ToCancel; timer = timer; reply_to = 0; info = true }

-- the caller asks for it, and the scheduler takes the request and cancels the timer
abbrev pub asked : List Entry
asked = begun 5
    ++ by_caller (Some (Inbox 0)) (Ask 0 request)
    ∷ by_sched (Some (Inbox 0)) (Pick 0 (Some request))
    ∷ by_sched None (Look (pos 1000000))
    ∷ by_sched None (Peek timer (Some 5))
    ∷ by_sched None (Cancel timer (Some 5))
    ∷ []

-- the scheduler tells the milliseconds that were left, and the caller takes the answer
abbrev pub answer : List Entry
answer =
    by_sched (Some (MailOf 0)) (Answer 0 (Some 5))
    ∷ by_caller (Some (MailOf 0)) (Take 0 (Some (CancelDone timer (Some 5))))
    ∷ []

-- both in a row
abbrev pub answered : List Entry
answered = asked ++ answer

-- OS system time comes to 10 seconds and leaps back to 5: the time stays, and the offset falls by 5 seconds
abbrev pub leapt_back : List Entry
leapt_back =
    by_caller (Some (MailOf 0)) (Watch 0 0 (pos 0))
    ∷ tick Force (pos 10000000000) (pos 10000000000)
    ∷ tick Force (pos 5000000000) (pos 10000000000)
    ∷ record { by = Keeper; with = Some (Caller 0); event = Shift (negsuc 4999999999) Volatile }
    ∷ []

-- the monitor is told
abbrev pub told : List Entry
told = leapt_back ++ by_caller (Some (MailOf 0)) (Tell 0 (negsuc 4999999999)) ∷ []

-- and told again
abbrev pub told_twice : List Entry
told_twice = told ++ by_caller (Some (MailOf 0)) (Tell 0 (negsuc 4999999999)) ∷ []

-- and its message is taken
abbrev pub taken : List Entry
taken = told_twice ++ by_caller (Some (MailOf 0)) (Take 0 (Some (Change 0 (negsuc 4999999999)))) ∷ []
