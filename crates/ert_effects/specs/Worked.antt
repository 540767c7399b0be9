-- Worked calls: entries that were written by hand, which a call may make or not with its answer. The
-- functions of src/worked.rt carry the judgements as contracts, so that they are proved.

use Rattle.std.specs.Prelude.{ℕ, pos, negsuc, Bool, true, false, List, [], ◌∷◌, ◌++◌, Option, Some, None}
use Rattle.ert_effects.specs.declared.answers.Turned.{Turned}
use Rattle.ert_defs.specs.{Entries.{arm_entry, orphan_entry, probe_entry, tell_entry}, States.{State, state}, Worked.{small, timer, start_after, by_caller, by_sched, tick, begun}, declared.entry.Act.TheVariants.Plain}
use Rattle.ert_defs.specs.{declared.entry.Actor.TheVariants.{Wheel, Inbox, Sched, MailOf, Caller}, declared.entry.Entry.Entry, declared.entry.Event.TheVariants.{Look, Peek, Cancel, Expire, Deliver, Mark, Advanced, Ask, Pick, Answer}}
use Rattle.ert_defs.specs.{declared.mail.Request.Request, declared.mail.RequestKind.TheVariants.Read, declared.settings.Mode.TheVariants.No, declared.settings.Settings.Settings, declared.timer.Kind.TheVariants.Wrapped}
use Rattle.ert_defs.specs.{declared.timer.Start.Start, declared.timer.Status.Status, declared.timer.TimerRef.TimerRef, declared.timer.When.TheVariants.After}

-- the settings of the worked histories: one of each kind
abbrev pub one : Settings
one = small No

-- the state at 1 millisecond, where no timer was started
abbrev pub idle : State
idle = state one (tick Plain (pos 1000000) (pos 1000000) ∷ [])

-- the state in which the only slot has a timer, which is due at the sixth millisecond
abbrev pub armed : State
armed = state one (begun 5)

-- a start that is refused: of a time before now
abbrev pub start_before : Start
start_before = record { when = After (negsuc 0); dest = 0; msg = 7; kind = Wrapped }

-- the caller looks at the time, at 1 millisecond
abbrev pub look : Entry
look = by_caller None (Look (pos 1000000))

-- it starts the timer, finds that the destination had exited or not, and ends so
abbrev pub starting : Bool → List Entry → List Entry
starting was closing = look ∷ (arm_entry 0 timer (start_after 5) ∷ (by_caller None (Mark 0 false was) ∷ closing))

-- the timer is cancelled for an exit
abbrev pub orphaned_by_exit : List Entry
orphaned_by_exit = orphan_entry 0 0 timer ∷ []

-- its slot is looked at by the caller
abbrev pub probed : Option Status → List Entry
probed found = probe_entry (Caller 0) 0 0 found ∷ []

-- the caller looks, and reads the timer
abbrev pub reading : Option ℕ → List Entry
reading found = look ∷ (by_caller None (Peek timer found) ∷ [])

-- and cancels it
abbrev pub cancelling : Option ℕ → List Entry
cancelling left = look ∷ (by_caller None (Peek timer (Some 5)) ∷ (by_caller None (Cancel timer left) ∷ []))

-- a reference that never named a timer
abbrev pub unbound : TimerRef
unbound = record { wheel = 0; slot = 0; generation = 0 }

-- two schedulers and two processes
abbrev pub two : Settings
two = record {
  mode = No;
  correction = false;
  start = pos 0;
  schedulers = 2;
  processes = 2;
  slots = 1;
  looks = 1;
  callers = 1;
  first = record { mono = pos 0; sys = pos 0 };
}

-- the first timer of a wheel
abbrev pub first_timer_of : ℕ → TimerRef
first_timer_of w = record { wheel = w; slot = 0; generation = 1 }

-- a start for a process, of a timer of 5 milliseconds
abbrev pub start_for : ℕ → Start
start_for process = record { when = After (pos 5); dest = process; msg = 7; kind = Wrapped }

-- each wheel has a timer: for process 0 and for this process
abbrev pub both_armed : ℕ → List Entry
both_armed process = arm_entry 0 (first_timer_of 0) (start_for 0) ∷ (arm_entry 0 (first_timer_of 1) (start_for process) ∷ [])

-- process 0 exits, and these timers are cancelled for that
abbrev pub exiting : List Entry → List Entry
exiting orphans = by_caller None (Mark 0 true false) ∷ orphans

-- an asynchronous read of the timer
abbrev pub request_to_read : Request
request_to_read = record { kind = Read; timer = timer; reply_to = 0; info = true }

-- a timer of no time is started, and the caller asks for what is left of it
abbrev pub asked_at_once : List Entry
asked_at_once = begun 0 ++ by_caller (Some (Inbox 0)) (Ask 0 request_to_read) ∷ []

-- the scheduler takes the request, reads the timer, and answers
abbrev pub serving : List Entry
serving =
    by_sched (Some (Inbox 0)) (Pick 0 (Some request_to_read))
    ∷ (by_sched None (Look (pos 1000000))
    ∷ (by_sched None (Peek timer (Some 0))
    ∷ (by_sched (Some (MailOf 0)) (Answer 0 (Some 0)) ∷ [])))

-- there is no other request
abbrev pub idling : List Entry
idling = by_sched (Some (Inbox 0)) (Pick 0 None) ∷ []

-- the timer expires
abbrev pub advancing : List Entry
advancing =
    by_sched None (Look (pos 1000000))
    ∷ (by_sched (Some (Wheel 0)) (Expire timer)
    ∷ (by_sched (Some (Wheel 0)) (Advanced 0 1) ∷ []))

-- or its slot is looked at, and found so
abbrev pub missing : Status → List Entry
missing found =
    by_sched None (Look (pos 1000000))
    ∷ (probe_entry (Sched 0) 0 0 (Some found)
    ∷ (by_sched (Some (Wheel 0)) (Advanced 0 1) ∷ []))

-- or it is looked at twice
abbrev pub missing_twice : Status → List Entry
missing_twice found =
    by_sched None (Look (pos 1000000))
    ∷ (probe_entry (Sched 0) 0 0 (Some found)
    ∷ (probe_entry (Sched 0) 0 0 (Some found)
    ∷ (by_sched (Some (Wheel 0)) (Advanced 0 1) ∷ [])))

-- and its message is put
abbrev pub delivering : List Entry
delivering = by_sched None (Mark 0 false false) ∷ (by_sched (Some (MailOf 0)) (Deliver timer) ∷ [])

-- a turn without its deliveries
abbrev pub turning : List Entry
turning = (serving ++ idling) ++ advancing

-- what a turn did: so many requests and messages
abbrev pub worked_turn : ℕ → ℕ → Turned
worked_turn served put = record { served = served; to = 1; expired = 1; put = put; dropped = 0 }

-- the process is told that the offset fell by 5 seconds
abbrev pub notifying : List Entry
notifying = tell_entry 0 0 (negsuc 4999999999) ∷ []
