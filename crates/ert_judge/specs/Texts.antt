-- The text of a reason.

use Rattle.std.specs.Prelude.{ℕ, ℤ, Bool, true, false, List, ◌++◌, codes, Option, Some, None}
use Rattle.std.specs.Fmt.{decimal, signed_decimal}
use Rattle.ert_defs.specs.declared.{entry.Actor.Actor, entry.Actor.TheVariants.{Keeper, Wheel, Inbox, Sched, MailOf, Caller}, mail.Mail.Mail, mail.Mail.TheVariants.{Timeout, Bare, CancelDone, ReadDone, Change}, mail.Request.Request}
use Rattle.ert_defs.specs.declared.{mail.RequestKind.RequestKind, mail.RequestKind.TheVariants.{Cancel, Read}, settings.OffsetState.OffsetState, settings.OffsetState.TheVariants.{Preliminary, Final, Volatile}, timer.Status.Status}
use Rattle.ert_defs.specs.declared.{timer.Status.TheVariants.{Armed, Expired, Delivered, Cancelled, Orphaned, Dropped}, timer.TimerRef.TimerRef}
use Rattle.ert_judge.specs.declared.reasons.{Counted.Counted, Counted.TheVariants.{Callers, Schedulers, Processes, Slots}, Maker.Maker, Maker.TheVariants.{Clock, Scheduler, AnyCaller, User, CallerOr, Reader}, Partner.Partner}
use Rattle.ert_judge.specs.declared.reasons.{Partner.TheVariants.{Nobody, Exactly, SomeCaller, SomeMailbox}, Reason.Reason, Reason.TheVariants.{NotBy, NotWith, TooHigh, ShiftFirst, BadReading, NotPreliminary, OtherTick, OffsetPast}}
use Rattle.ert_judge.specs.declared.reasons.{Reason.TheVariants.{OtherShift, OtherTime, OtherOffset, OtherState, SlotTaken, OtherGeneration, Rests, NoDeadline, WheelUsed, OtherStatus, OtherLeft, NotArmed, NotDue, Later, NotNext, NotExited}}
use Rattle.ert_judge.specs.declared.reasons.{Reason.TheVariants.{NoneWaits, OtherWaits, OtherDest, OtherMilliseconds, StillArmed, OtherExit, HandFull, OtherRequest, HandEmpty, OtherAsker, OtherOutcome, NothingLeft, OtherMail, OtherMonitor}}
use Rattle.ert_judge.specs.declared.reasons.{Reason.TheVariants.{OtherNumber, TooMany}}

-- one text, and then another
infixr 20 ◌⋅◌
abbrev pub ◌⋅◌ : List ℕ → List ℕ → List ℕ
xs ⋅ ys = xs ++ ys

-- the word for a state of the offset
unfoldable pub offset_state_word : OffsetState → List ℕ
offset_state_word Preliminary = codes "preliminary"
offset_state_word Final = codes "final"
offset_state_word Volatile = codes "volatile"

-- the word for where a timer stands
unfoldable pub standing_word : Status → List ℕ
standing_word Armed = codes "armed"
standing_word Expired = codes "expired"
standing_word Delivered = codes "delivered"
standing_word Cancelled = codes "cancelled"
standing_word Orphaned = codes "orphaned"
standing_word Dropped = codes "dropped"

-- the word for one of what is counted
unfoldable pub thing_word : Counted → List ℕ
thing_word Callers = codes "caller"
thing_word Schedulers = codes "scheduler"
thing_word Processes = codes "process"
thing_word Slots = codes "slot"

-- the word for what a request asks for
unfoldable pub asked_word : RequestKind → List ℕ
asked_word Cancel = codes "cancel"
asked_word Read = codes "read"

-- the word for whether something is so
unfoldable pub truth_word : Bool → List ℕ
truth_word true = codes "true"
truth_word false = codes "false"

-- the text for who makes an event
abbrev pub maker_text : Maker → List ℕ
maker_text Clock = codes "only k makes it"
maker_text (Scheduler n) = codes "only s" ⋅ decimal n ⋅ codes " makes it"
maker_text AnyCaller = codes "only a caller makes it"
maker_text User = codes "only a caller or a scheduler makes it"
maker_text (CallerOr n) = codes "only a caller or s" ⋅ decimal n ⋅ codes " makes it"
maker_text Reader = codes "only k, a caller or a scheduler makes it"

-- and for the second actor, where it is a certain one
abbrev pub actor_text : Actor → List ℕ
actor_text Keeper = codes "it is made with k"
actor_text (Wheel n) = codes "it is made with w" ⋅ decimal n
actor_text (Inbox n) = codes "it is made with i" ⋅ decimal n
actor_text (Sched n) = codes "it is made with s" ⋅ decimal n
actor_text (MailOf n) = codes "it is made with m" ⋅ decimal n
actor_text (Caller n) = codes "it is made with c" ⋅ decimal n

-- the text for with whom an event is made
abbrev pub partner_text : Partner → List ℕ
partner_text Nobody = codes "it is made with nobody"
partner_text (Exactly actor) = actor_text actor
partner_text SomeCaller = codes "it is made with a caller"
partner_text SomeMailbox = codes "it is made with the mailbox of a process"

-- the three numbers of a timer, and what follows them
abbrev pub timer_then : TimerRef → List ℕ → List ℕ
timer_then t rest = decimal t.wheel ⋅ codes " " ⋅ decimal t.slot ⋅ codes " " ⋅ decimal t.generation ⋅ rest

-- a request, spelled as in a history
abbrev pub request_text : Request → List ℕ
request_text r =
    asked_word r.kind ⋅ codes " " ⋅ timer_then r.timer (codes " " ⋅ decimal r.reply_to ⋅ codes " " ⋅ truth_word r.info)

-- what an answer tells to be left
abbrev pub answer_text : Option ℕ → List ℕ
answer_text None = codes " none"
answer_text (Some n) = codes " " ⋅ decimal n

-- a message, spelled so
abbrev pub mail_text : Mail → List ℕ
mail_text (Timeout timer msg) = codes "timeout " ⋅ timer_then timer (codes " " ⋅ decimal msg)
mail_text (Bare msg) = codes "bare " ⋅ decimal msg
mail_text (CancelDone timer left) = codes "cancel_done " ⋅ timer_then timer (answer_text left)
mail_text (ReadDone timer left) = codes "read_done " ⋅ timer_then timer (answer_text left)
mail_text (Change monitor offset) = codes "change " ⋅ decimal monitor ⋅ codes " " ⋅ signed_decimal offset

-- the shift that is due
abbrev pub due_text : Option (ℤ × OffsetState) → List ℕ
due_text None = codes "no shift is due"
due_text (Some d) = codes "the shift that is due is " ⋅ signed_decimal d.0 ⋅ codes " " ⋅ offset_state_word d.1

-- where the last timer of a slot stands
abbrev pub slot_text : Option Status → List ℕ
slot_text None = codes "the slot had no timer"
slot_text (Some status) = codes "the last timer of the slot is " ⋅ standing_word status

-- how much is left of a timer
abbrev pub ms_text : Option ℕ → List ℕ
ms_text None = codes "the timer isn't armed, so that nothing is left"
ms_text (Some n) = decimal n ⋅ codes " ms are left"

-- where a timer that isn't armed stands
abbrev pub unarmed_text : Option Status → List ℕ
unarmed_text None = codes "the timer was never armed"
unarmed_text (Some status) = codes "the timer is " ⋅ standing_word status ⋅ codes ", not armed"

-- what waits first in an inbox
abbrev pub waiting_text : Option Request → List ℕ
waiting_text None = codes "no request waits"
waiting_text (Some request) = codes "the first request that waits is " ⋅ request_text request

-- what the step on a request told
abbrev pub outcome_text : Option (Option ℕ) → List ℕ
outcome_text None = codes "the scheduler has made no step on the request"
outcome_text (Some left) = codes "the scheduler's last step on the request told" ⋅ answer_text left

-- what is first in a mailbox
abbrev pub first_text : Option Mail → List ℕ
first_text None = codes "the mailbox is empty"
first_text (Some mail) = codes "the first message is " ⋅ mail_text mail

-- whether a process has exited
abbrev pub exit_text : Bool → List ℕ
exit_text true = codes "the process has exited"
exit_text false = codes "the process hasn't exited"

-- whether a monitor stands
abbrev pub monitor_text : Bool → List ℕ
monitor_text true = codes "the monitor stands"
monitor_text false = codes "the monitor doesn't stand"

-- a reason
abbrev pub reason_text : Reason → List ℕ
reason_text (NotBy maker) = maker_text maker
reason_text (NotWith partner) = partner_text partner
reason_text (TooHigh thing number count) =
    codes "there is no " ⋅ thing_word thing ⋅ codes " " ⋅ decimal number ⋅ codes ": the settings have " ⋅ decimal count
reason_text (ShiftFirst offset state) = codes "a shift is due first: " ⋅ signed_decimal offset ⋅ codes " " ⋅ offset_state_word state
reason_text BadReading = codes "its reading isn't valid"
reason_text (NotPreliminary state) = codes "only a preliminary offset can be finalized, and the state is " ⋅ offset_state_word state
reason_text (OtherTick time) = codes "with this reading the clock comes to " ⋅ signed_decimal time
reason_text (OffsetPast offset state) = codes "the shift that it makes due takes the offset past its limits, to " ⋅ signed_decimal offset
reason_text (OtherShift due) = due_text due
reason_text (OtherTime now) = codes "the clock's time is " ⋅ signed_decimal now
reason_text (OtherOffset offset) = codes "the offset is " ⋅ signed_decimal offset
reason_text (OtherState state) = codes "the state of the offset is " ⋅ offset_state_word state
reason_text (SlotTaken status) = codes "the slot is taken: its last timer is " ⋅ standing_word status
reason_text (OtherGeneration next) = codes "the next generation of the slot is " ⋅ decimal next
reason_text (Rests until) = codes "the slot rests until " ⋅ decimal until ⋅ codes " ms"
reason_text WheelUsed = codes "the wheel has had 2^53 timers"
reason_text NoDeadline = codes "the start is refused: its delay is negative, or its deadline is outside the limits"
reason_text (OtherStatus status) = slot_text status
reason_text (OtherLeft left) = ms_text left
reason_text (NotArmed status) = unarmed_text status
reason_text (NotDue scheduler deadline looked) =
    codes "the timer's deadline is " ⋅ decimal deadline ⋅ codes " ms, and scheduler " ⋅ decimal scheduler
    ⋅ codes " last looked at " ⋅ signed_decimal looked ⋅ codes " ms"
reason_text (Later first deadline) = codes "timer " ⋅ timer_then first (codes " comes first, with deadline " ⋅ decimal deadline ⋅ codes " ms")
reason_text NotNext = codes "an armed timer of the scheduler comes first"
reason_text (NotExited dest) = codes "its destination, process " ⋅ decimal dest ⋅ codes ", hasn't exited"
reason_text NoneWaits = codes "no expired timer of the scheduler waits"
reason_text (OtherWaits first) = codes "timer " ⋅ timer_then first (codes " is the first that waits")
reason_text (OtherDest dest) = codes "the timer's destination is process " ⋅ decimal dest
reason_text (OtherMilliseconds looked) = codes "the scheduler last looked at " ⋅ signed_decimal looked ⋅ codes " ms"
reason_text (StillArmed timer deadline) = codes "timer " ⋅ timer_then timer (codes " is still armed, with deadline " ⋅ decimal deadline ⋅ codes " ms")
reason_text (OtherExit exited) = exit_text exited
reason_text (HandFull request) = codes "a request is in the scheduler's hand: " ⋅ request_text request
reason_text (OtherRequest first) = waiting_text first
reason_text HandEmpty = codes "no request is in the scheduler's hand"
reason_text (OtherAsker process) = codes "the request in the hand was asked for process " ⋅ decimal process
reason_text (OtherOutcome outcome) = outcome_text outcome
reason_text NothingLeft = codes "the request names no timer in range, so that nothing is left"
reason_text (OtherMail first) = first_text first
reason_text (OtherMonitor stands) = monitor_text stands
reason_text (OtherNumber next) = codes "the next monitor of the process is " ⋅ decimal next
reason_text (TooMany count) = decimal count ⋅ codes " monitors of the process stand, which is the limit"

-- a reason isn't of the range or of the clock
abbrev pub IsPastClock : Reason → Type 0
IsPastClock (NotBy maker) = ⊥
IsPastClock (NotWith partner) = ⊥
IsPastClock (TooHigh thing number count) = ⊥
IsPastClock (ShiftFirst offset state) = ⊥
IsPastClock BadReading = ⊥
IsPastClock (NotPreliminary state) = ⊥
IsPastClock (OtherTick time) = ⊥
IsPastClock (OffsetPast offset state) = ⊥
IsPastClock (OtherShift due) = ⊥
IsPastClock (OtherTime now) = ⊥
IsPastClock (OtherOffset offset) = ⊥
IsPastClock (OtherState state) = ⊥
IsPastClock _ = Unit {0}

-- nor of a timer
abbrev pub IsPastTimers : Reason → Type 0
IsPastTimers (SlotTaken status) = ⊥
IsPastTimers (OtherGeneration next) = ⊥
IsPastTimers (Rests until) = ⊥
IsPastTimers WheelUsed = ⊥
IsPastTimers NoDeadline = ⊥
IsPastTimers (OtherStatus status) = ⊥
IsPastTimers (OtherLeft left) = ⊥
IsPastTimers (NotArmed status) = ⊥
IsPastTimers (NotDue scheduler deadline looked) = ⊥
IsPastTimers (Later first deadline) = ⊥
IsPastTimers NotNext = ⊥
IsPastTimers (NotExited dest) = ⊥
IsPastTimers _ = Unit {0}
