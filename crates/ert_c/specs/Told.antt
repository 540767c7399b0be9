-- How C is told the answers of calls on timers, mailboxes and turns. Where a call is refused, what C passed to
-- be written is as it was.

use Rattle.std.specs.Prelude.{◌≡◌, ℕ, ℤ, pos, Bool, true, false, cond, nat_eq, Option, Some, None, Result, Ok, Err}
use Rattle.ert_effects.specs.declared.answers.{MonitorErr.MonitorErr, MonitorErr.TheVariants.{Full as NoPlace, NoMemory as MonitorNoMemory}, Room.Room, StartErr.StartErr, StartErr.TheVariants.{BadArg, Full, NoMemory}, Taken.Taken}
use Rattle.ert_effects.specs.declared.answers.{Taken.TheVariants.{Mail as Took, Empty, Exited}, Turned.Turned}
use Rattle.ert_defs.specs.declared.{mail.Mail.Mail, mail.Mail.TheVariants.{Timeout, Bare as BareMail, CancelDone, ReadDone, Change}, mail.Request.Request, mail.RequestKind.RequestKind, mail.RequestKind.TheVariants.{Cancel, Read}}
use Rattle.ert_defs.specs.declared.{memory.NoMemory.NoMemory as OutOfMemory, timer.Kind.Kind, timer.Kind.TheVariants.{Wrapped, Bare}, timer.Start.Start, timer.TimerRef.TimerRef, timer.When.When, timer.When.TheVariants.{After, At}}
use Rattle.ert_c.specs.{ClockCalls.is_on, declared.mail_calls.ErtMail.ErtMail, declared.mail_calls.ErtRequest.ErtRequest, declared.timer_calls.ErtStart.ErtStart, declared.timer_calls.ErtTimer.ErtTimer}
use Rattle.ert_c.specs.{declared.turn_calls.ErtAdvanced.ErtAdvanced, declared.turn_calls.ErtDelivered.ErtDelivered, declared.turn_calls.ErtTurned.ErtTurned, declared.status.TheConstants.{OK, NO_MEMORY, BAD_TIME, FULL, NO_TIMER, EMPTY}}
use Rattle.ert_c.specs.{declared.status.TheConstants.{EXITED, NO_MONITOR}}

-- a flag for C
abbrev pub flag : Bool → ℕ
flag true = 1
flag false = 0

-- the reference of a timer, for C
abbrev pub timer_as : TimerRef → ErtTimer
timer_as r = record { wheel = r.wheel; slot = r.slot; generation = r.generation }

-- the reference of a timer, from C
abbrev pub timer_from_c : ErtTimer → TimerRef
timer_from_c r = record { wheel = r.wheel; slot = r.slot; generation = r.generation }

-- when a timer is due, from C: at a time, or so many milliseconds after its start
abbrev pub when_of : ErtStart → When
when_of s = cond (is_on s.absolute) (At s.when) (After s.when)

-- what a timer sends, from C
abbrev pub kind_of : ErtStart → Kind
kind_of s = cond (is_on s.bare) Bare Wrapped

-- what a timer is started with, from C
abbrev pub start_of : ErtStart → Start
start_of s = record { when = when_of s; dest = s.dest; msg = s.msg; kind = kind_of s }

-- the timer that was started, or why none was
abbrev pub IsStartTold : Result TimerRef StartErr → ErtTimer → ℤ → ErtTimer → Type 0
IsStartTold (Ok timer) old status new = (status ≡ OK) × (new ≡ timer_as timer)
IsStartTold (Err BadArg) old status new = (status ≡ BAD_TIME) × (new ≡ old)
IsStartTold (Err Full) old status new = (status ≡ FULL) × (new ≡ old)
IsStartTold (Err NoMemory) old status new = (status ≡ NO_MEMORY) × (new ≡ old)

-- when a slot that rests can be used again, for C: 0 where none rests
abbrev pub ready_as : Option ℕ → ℕ
ready_as None = 0
ready_as (Some time) = time

-- how much room a wheel has
abbrev pub IsRoomTold : Room → ℤ → ℕ → ℕ → Type 0
IsRoomTold answer status room ready = (status ≡ OK) × (room ≡ answer.free) × (ready ≡ ready_as answer.ready)

-- the milliseconds that were left of a timer
abbrev pub IsLeftTold : Option ℕ → ℕ → ℤ → ℕ → Type 0
IsLeftTold (Some left) old status new = (status ≡ OK) × (new ≡ left)
IsLeftTold None old status new = (status ≡ NO_TIMER) × (new ≡ old)

-- an answer that is yes or no
abbrev pub IsFlag : Bool → ℤ → ℕ → Type 0
IsFlag answer status new = (status ≡ OK) × (new ≡ flag answer)

-- what a call gave, as C finds it in a place of its own; when out of memory that place is as it was
abbrev pub IsGiven : {A P : Type 0} → (A → P) → Result A OutOfMemory → P → ℤ → P → Type 0
IsGiven shown (Ok given) old status new = (status ≡ OK) × (new ≡ shown given)
IsGiven shown (Err e) old status new = (status ≡ NO_MEMORY) × (new ≡ old)

-- a number, or out of memory
abbrev pub IsNumber : Result ℕ OutOfMemory → ℕ → ℤ → ℕ → Type 0
IsNumber = IsGiven (λ n. n)

-- whether a request was served, or out of memory
abbrev pub IsServed : Result Bool OutOfMemory → ℕ → ℤ → ℕ → Type 0
IsServed = IsGiven flag

-- to which millisecond a wheel was advanced and how many timers expired, or out of memory
abbrev pub IsAdvanceTold : Result (ℕ × ℕ) OutOfMemory → ErtAdvanced → ℤ → ErtAdvanced → Type 0
IsAdvanceTold = IsGiven (λ p. record { to = p.0; expired = p.1 })

-- how many messages were put and dropped, or out of memory
abbrev pub IsDelivered : Result (ℕ × ℕ) OutOfMemory → ErtDelivered → ℤ → ErtDelivered → Type 0
IsDelivered = IsGiven (λ p. record { put = p.0; dropped = p.1 })

-- what a turn did, for C
abbrev pub turned_as : Turned → ErtTurned
turned_as t = record { to = t.to; served = t.served; expired = t.expired; put = t.put; dropped = t.dropped }

-- what a turn did, or out of memory
abbrev pub IsTurned : Result Turned OutOfMemory → ErtTurned → ℤ → ErtTurned → Type 0
IsTurned = IsGiven turned_as

-- the reference in a message that names no timer
abbrev pub no_timer : ErtTimer
no_timer = record { wheel = 0; slot = 0; generation = 0 }

-- a message with this number of its kind, reference and value, and what was left where that is told; the other
-- fields are 0
abbrev pub c_mail_of : ℕ → ErtTimer → ℕ → Option ℕ → ErtMail
c_mail_of tag timer msg (Some left) = record { tag = tag; timer = timer; has_left = 1; monitor = 0; msg = msg; left = left; offset = pos 0 }
c_mail_of tag timer msg None = record { tag = tag; timer = timer; has_left = 0; monitor = 0; msg = msg; left = 0; offset = pos 0 }

-- a message, for C: the number of its kind, with its fields; the others are 0
abbrev pub mail_as : Mail → ErtMail
mail_as (Timeout timer msg) = c_mail_of 1 (timer_as timer) msg None
mail_as (BareMail msg) = c_mail_of 2 no_timer msg None
mail_as (CancelDone timer left) = c_mail_of 3 (timer_as timer) 0 left
mail_as (ReadDone timer left) = c_mail_of 4 (timer_as timer) 0 left
mail_as (Change monitor offset) =
    record { tag = 5; timer = no_timer; has_left = 0; monitor = monitor; msg = 0; left = 0; offset = offset }

-- the message that was taken, or that there is none, or that the process has exited
abbrev pub IsTakeTold : Taken → ErtMail → ℤ → ErtMail → Type 0
IsTakeTold (Took m) old status new = (status ≡ OK) × (new ≡ mail_as m)
IsTakeTold Empty old status new = (status ≡ EMPTY) × (new ≡ old)
IsTakeTold Exited old status new = (status ≡ EXITED) × (new ≡ old)

-- what a number asks for
abbrev pub request_kind_at : ℕ → Option RequestKind
request_kind_at n = cond (nat_eq n 0) (Some Cancel) (cond (nat_eq n 1) (Some Read) None)

-- a request of this kind, from C
abbrev pub request_of : ErtRequest → RequestKind → Request
request_of r kind = record { kind = kind; timer = timer_from_c r.timer; reply_to = r.reply_to; info = is_on r.info }

-- a call that tells nothing more was done, or out of memory
abbrev pub IsToldDone : Result (Unit {0}) OutOfMemory → ℤ → Type 0
IsToldDone (Ok _) status = status ≡ OK
IsToldDone (Err e) status = status ≡ NO_MEMORY

-- the number of the monitor that was made, or why none was
abbrev pub IsMonitorTold : Result ℕ MonitorErr → ℕ → ℤ → ℕ → Type 0
IsMonitorTold (Ok n) old status new = (status ≡ OK) × (new ≡ n)
IsMonitorTold (Err NoPlace) old status new = (status ≡ FULL) × (new ≡ old)
IsMonitorTold (Err MonitorNoMemory) old status new = (status ≡ NO_MEMORY) × (new ≡ old)

-- whether the monitor stood that was to be removed
abbrev pub IsDemonitored : Bool → ℤ → Type 0
IsDemonitored true status = status ≡ OK
IsDemonitored false status = status ≡ NO_MONITOR

-- how early a timer may be due
abbrev pub IsDueTold : Option ℕ → ℕ → ℤ → ℕ → Type 0
IsDueTold (Some time) old status new = (status ≡ OK) × (new ≡ time)
IsDueTold None old status new = (status ≡ EMPTY) × (new ≡ old)
