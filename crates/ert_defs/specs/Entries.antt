-- The entry of each event: who makes it, and with whom. And the entries that some actors have.

use Rattle.std.specs.Prelude.{ℕ, ℤ, Bool, Option, Some, None, List}
use Rattle.std.specs.List.{list_any}
use Rattle.ert_defs.specs.{Actors.has_actor, declared.entry.Act.Act, declared.entry.Actor.Actor, declared.entry.Actor.TheVariants.{Keeper, Wheel, Inbox, Sched, MailOf, Caller}, declared.entry.Entry.Entry, declared.entry.Event.Event}
use Rattle.ert_defs.specs.{declared.entry.Event.TheVariants.{Tick, Shift, Look, Off, Arm, Probe, Peek, Cancel, Expire, Orphan, Deliver, Drop, Mark, Advanced, Ask, Pick, Answer, Take, Unwatch, Watch, Tell}, declared.mail.Mail.Mail}
use Rattle.ert_defs.specs.{declared.mail.Request.Request, declared.settings.OffsetState.OffsetState, declared.settings.Reading.Reading, declared.timer.Start.Start, declared.timer.Status.Status, declared.timer.TimerRef.TimerRef}

-- whether an entry has an actor among these
abbrev pub is_ours : List Actor → Entry → Bool
is_ours actors e = list_any (λ a. has_actor e a) actors

-- an entry
abbrev pub entry_by : Actor → Option Actor → Event → Entry
entry_by by with event = record { by = by; with = with; event = event }

-- an entry of the clock, made with a caller
abbrev pub keeper_entry : ℕ → Event → Entry
keeper_entry n event = entry_by Keeper (Some (Caller n)) event

-- the clock takes a reading
abbrev pub tick_entry : ℕ → Reading → Act → ℤ → Entry
tick_entry n r act now = keeper_entry n (Tick r act now)

-- the offset is shifted, and gets a state
abbrev pub shift_entry : ℕ → ℤ → OffsetState → Entry
shift_entry n offset state = keeper_entry n (Shift offset state)

-- the time is read
abbrev pub look_entry : Actor → ℤ → Entry
look_entry by now = entry_by by None (Look now)

-- the offset is read, with its state
abbrev pub off_entry : Actor → ℤ → OffsetState → Entry
off_entry by offset state = entry_by by None (Off offset state)

-- a caller starts a timer
abbrev pub arm_entry : ℕ → TimerRef → Start → Entry
arm_entry by timer start = entry_by (Caller by) (Some (Wheel timer.wheel)) (Arm timer start)

-- the last timer of a slot is looked at
abbrev pub probe_entry : Actor → ℕ → ℕ → Option Status → Entry
probe_entry by wheel slot found = entry_by by (Some (Wheel wheel)) (Probe wheel slot found)

-- a timer is read: what is left of it, where it is armed
abbrev pub peek_entry : Actor → TimerRef → Option ℕ → Entry
peek_entry by timer left = entry_by by None (Peek timer left)

-- a timer is cancelled: what was left of it, where it was armed
abbrev pub cancel_entry : Actor → TimerRef → Option ℕ → Entry
cancel_entry by timer left = entry_by by None (Cancel timer left)

-- a scheduler lets a timer of its wheel expire
abbrev pub expire_entry : ℕ → TimerRef → Entry
expire_entry w timer = entry_by (Sched w) (Some (Wheel w)) (Expire timer)

-- a caller cancels a timer of a wheel, since its destination has exited
abbrev pub orphan_entry : ℕ → ℕ → TimerRef → Entry
orphan_entry by w timer = entry_by (Caller by) (Some (Wheel w)) (Orphan timer)

-- a scheduler puts the message of an expired timer into the mailbox of a process
abbrev pub deliver_entry : ℕ → ℕ → TimerRef → Entry
deliver_entry w process timer = entry_by (Sched w) (Some (MailOf process)) (Deliver timer)

-- a scheduler throws the message of an expired timer away
abbrev pub drop_entry : ℕ → TimerRef → Entry
drop_entry w timer = entry_by (Sched w) None (Drop timer)

-- it is seen whether a process had exited, and maybe it exits
abbrev pub mark_entry : Actor → ℕ → Bool → Bool → Entry
mark_entry by process exits was = entry_by by None (Mark process exits was)

-- a scheduler has settled all timers of its wheel that were due
abbrev pub advanced_entry : ℕ → ℕ → Entry
advanced_entry w to = entry_by (Sched w) (Some (Wheel w)) (Advanced w to)

-- a caller puts a request into an inbox
abbrev pub ask_entry : ℕ → ℕ → Request → Entry
ask_entry by w request = entry_by (Caller by) (Some (Inbox w)) (Ask w request)

-- a scheduler takes the first request of its inbox, or finds none
abbrev pub pick_entry : ℕ → Option Request → Entry
pick_entry w got = entry_by (Sched w) (Some (Inbox w)) (Pick w got)

-- a scheduler answers the request in its hand, with the mailbox of the process that asked
abbrev pub answer_entry : ℕ → ℕ → Option ℕ → Entry
answer_entry w process left = entry_by (Sched w) (Some (MailOf process)) (Answer w left)

-- a caller takes the first message of a mailbox
abbrev pub take_entry : ℕ → ℕ → Option Mail → Entry
take_entry by process got = entry_by (Caller by) (Some (MailOf process)) (Take process got)

-- a caller makes a monitor of a process, with this number and this offset
abbrev pub watch_entry : ℕ → ℕ → ℕ → ℤ → Entry
watch_entry by process monitor offset = entry_by (Caller by) (Some (MailOf process)) (Watch process monitor offset)

-- a caller removes a monitor of a process; it is seen whether it stood
abbrev pub unwatch_entry : ℕ → ℕ → ℕ → Bool → Entry
unwatch_entry by process monitor was = entry_by (Caller by) (Some (MailOf process)) (Unwatch process monitor was)

-- a caller has the monitors of a process told the offset
abbrev pub tell_entry : ℕ → ℕ → ℤ → Entry
tell_entry by process offset = entry_by (Caller by) (Some (MailOf process)) (Tell process offset)
