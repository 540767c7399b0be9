-- Which condition of its event an entry breaks: for each event the reasons that there can be, in the order in which
-- they are looked for, and what each says of the state before the entry. Each says also that none before it holds.
-- A reason of another event says what never holds.

use Rattle.std.specs.Prelude.{◌≡◌, ◌≢◌, ◌⊎◌, ℕ, ℤ, pos, ◌+◌, ◌<◌, ◌≤◌, ◌<ℤ◌, ◌≤ℤ◌, nat_lt, Bool, true, false, List, length, Option, Some, None}
use Rattle.ert_defs.specs.{Clocks.face, Legal.{IsNext, AllSettled, stands_in, names_timer, left_of}, Lines.{Face, Due, IsOffset, MayAct, time_after, due_after}, Mails.{MailState, SchedState, first_of}, Milliseconds.{natural, down}}
use Rattle.ert_defs.specs.{Milliseconds.deadline_of, Readings.IsValid, States.{State, uses_at}, Timers.{Row, Uses, IsNextUse, use_of, turned, deadline_in, generation_in, row_of, is_taken, timer_at}, declared.entry.Act.Act}
use Rattle.ert_defs.specs.{declared.entry.Actor.Actor, declared.entry.Actor.TheVariants.MailOf, declared.entry.Event.Event, declared.entry.Event.TheVariants.{Tick, Shift, Look, Off, Arm, Probe, Peek, Cancel, Expire, Orphan, Deliver, Drop}}
use Rattle.ert_defs.specs.{declared.entry.Event.TheVariants.{Mark, Advanced, Ask, Pick, Answer, Take, Unwatch, Watch, Tell}, declared.mail.Mail.Mail, declared.mail.Request.Request, declared.settings.OffsetState.OffsetState}
use Rattle.ert_defs.specs.{declared.settings.Reading.Reading, declared.settings.Settings.Settings, declared.timer.Start.Start, declared.timer.Status.Status, declared.timer.Status.TheVariants.Armed, declared.timer.TimerRef.TimerRef}
use Rattle.ert_judge.specs.declared.reasons.Reason.{Reason}
use Rattle.ert_judge.specs.declared.reasons.Reason.TheVariants.{ShiftFirst, BadReading, NotPreliminary, OtherTick, OffsetPast, OtherShift, OtherTime, OtherOffset, OtherState, SlotTaken, OtherGeneration, Rests, NoDeadline, WheelUsed, OtherStatus, OtherLeft, NotArmed, NotDue, Later, NotNext, NotExited, NoneWaits, OtherWaits, OtherDest, OtherMilliseconds, StillArmed, OtherExit, HandFull, OtherRequest, HandEmpty, OtherAsker, OtherOutcome, NothingLeft, OtherMail, OtherMonitor, OtherNumber, TooMany}

-- a value that an entry tells isn't the one that it has to tell
pub record Differs {X : Type 0} (told is wanted : X) : Type 0 where
  pub value : is ≡ wanted
  pub differs : told ≢ is

-- a timer of a wheel is armed with a deadline
pub record IsArmedTill (s : State) (wheel : ℕ) (timer : TimerRef) (deadline : ℕ) : Type 0 where
  pub row : Row
  pub stands : row_of (s.rows wheel) timer ≡ Some row
  pub armed : s.status timer ≡ Some Armed
  pub till : deadline ≡ row.deadline

-- it is the first of the armed ones of its wheel: none is armed with an earlier deadline
pub record IsEarliestArmed (s : State) (wheel : ℕ) (timer : TimerRef) (deadline : ℕ) : Type 0 where
  pub till : IsArmedTill s wheel timer deadline
  pub least : AllSettled s.status (λ d. nat_lt d deadline) (s.rows wheel)

-- a timer is armed, and its deadline is later than the last look of its scheduler
pub record IsEarly (g : Settings) (s : State) (by : Actor) (timer : TimerRef) (scheduler deadline : ℕ) (looked : ℤ) : Type 0 where
  pub its : scheduler ≡ timer.wheel
  pub armed : IsArmedTill s timer.wheel timer deadline
  pub look : looked ≡ down g (s.looked by)
  pub early : looked <ℤ pos deadline
  pub never : IsNext g s by timer → ⊥

-- a timer is armed and due by the last look of its scheduler, and isn't the next of its wheel
pub record IsKeptBack (g : Settings) (s : State) (by : Actor) (timer : TimerRef) (deadline : ℕ) : Type 0 where
  pub armed : IsArmedTill s timer.wheel timer deadline
  pub due : pos deadline ≤ℤ down g (s.looked by)
  pub never : IsNext g s by timer → ⊥

-- so is one where the first that is armed has an earlier deadline
pub record IsLater (g : Settings) (s : State) (by : Actor) (timer first : TimerRef) (deadline : ℕ) : Type 0 where
  pub own : ℕ
  pub kept : IsKeptBack g s by timer own
  pub before : IsEarliestArmed s timer.wheel first deadline
  pub sooner : deadline < own

-- and one where that is another with the same deadline
pub record IsSecond (g : Settings) (s : State) (by : Actor) (timer : TimerRef) : Type 0 where
  pub own : ℕ
  pub kept : IsKeptBack g s by timer own
  pub first : TimerRef
  pub before : IsEarliestArmed s timer.wheel first own
  pub other : first ≢ timer

-- the row of a timer stands, and goes to a process
pub record GoesTo (s : State) (timer : TimerRef) (dest : ℕ) : Type 0 where
  pub row : Row
  pub stands : row_of (s.rows timer.wheel) timer ≡ Some row
  pub to : dest ≡ row.dest

-- the first of the expired timers that wait is another
pub record IsBehind (expired : List Row) (first timer : TimerRef) : Type 0 where
  pub row : Row
  pub waits : first_of expired ≡ Some row
  pub named : first ≡ row.timer
  pub other : first ≢ timer

-- a timer is the first of them, and goes to a process
pub record FirstGoesTo (expired : List Row) (timer : TimerRef) (dest : ℕ) : Type 0 where
  pub row : Row
  pub waits : first_of expired ≡ Some row
  pub named : row.timer ≡ timer
  pub to : dest ≡ row.dest

-- the request in the hand is asked for a process
pub record IsAskedFor (sched : SchedState) (process : ℕ) : Type 0 where
  pub request : Request
  pub hand : sched.hand ≡ Some request
  pub asker : process ≡ request.reply_to

-- an answer is made with the mailbox for which the request in the hand is asked, which names a timer or not, by its
-- numbers
pub record AnswersAsker (g : Settings) (sched : SchedState) (with : Option Actor) (names : Bool) : Type 0 where
  pub request : Request
  pub hand : sched.hand ≡ Some request
  pub asker : with ≡ Some (MailOf request.reply_to)
  pub test : names_timer g request.timer ≡ names

-- of a tick
abbrev pub TickBreaks : Settings → Face → Option Due → Reading → Act → ℤ → Reason → Type 0
TickBreaks g f due r act now (ShiftFirst offset state) = due ≡ Some (offset, state)
TickBreaks g f due r act now BadReading = (due ≡ None) × (IsValid r → ⊥)
TickBreaks g f due r act now (NotPreliminary state) =
    (due ≡ None) × IsValid r × (state ≡ f.state) × (MayAct act f.state → ⊥)
TickBreaks g f due r act now (OtherTick time) =
    (due ≡ None) × IsValid r × MayAct act f.state × Differs now time (time_after g f r)
TickBreaks g f due r act now (OffsetPast offset state) =
    (due ≡ None) × IsValid r × MayAct act f.state × (now ≡ time_after g f r)
    × (due_after g f r act now ≡ Some (offset, state)) × (IsOffset offset → ⊥)
TickBreaks g f due r act now _ = ⊥

-- of a shift
abbrev pub ShiftBreaks : Option Due → ℤ → OffsetState → Reason → Type 0
ShiftBreaks due offset state (OtherShift is) = (is ≡ due) × (due ≢ Some (offset, state))
ShiftBreaks due offset state _ = ⊥

-- of a look
abbrev pub LookBreaks : ℤ → ℤ → Reason → Type 0
LookBreaks now told (OtherTime is) = Differs told is now
LookBreaks now told _ = ⊥

-- of a reading of the offset
abbrev pub OffBreaks : ℤ → OffsetState → ℤ → OffsetState → Reason → Type 0
OffBreaks offset state told told_state (OtherOffset is) = Differs told is offset
OffBreaks offset state told told_state (OtherState is) = (told ≡ offset) × Differs told_state is state
OffBreaks offset state told told_state _ = ⊥

-- the status of the last timer of a slot
abbrev pub last_status_of : State → ℕ → ℕ → Option Status
last_status_of s wheel slot = s.status (timer_at wheel slot (s.last wheel slot))

-- the next generation of a slot with these uses is another, for a start at a look of so many milliseconds that
-- has this deadline within the limit; in the first round it is the same for each deadline, and for none
pub record IsNotNext (u : Uses) (now : ℕ) (deadline : Option ℕ) (told next : ℕ) : Type 0 where
  pub wanted : ℕ
  pub rested : (turned u).since ≤ now
  pub due : ((turned u).since ≡ 0) ⊎ ((deadline ≡ Some wanted) × (deadline_in (turned u).since now wanted ≤ 8796093022207))
  pub value : next ≡ generation_in (turned u).since (use_of (turned u).last + 1) (deadline_in (turned u).since now wanted)
  pub differs : told ≢ next

-- a slot with these uses rests until so many milliseconds
pub record IsResting (u : Uses) (now until : ℕ) : Type 0 where
  pub value : until ≡ (turned u).since
  pub early : now < until

-- the milliseconds that an actor last looked at
abbrev pub looked_at : Settings → State → Actor → ℕ
looked_at g s by = natural (down g (s.looked by))

-- where a start has a deadline, it is past the limit in the round of its slot, which doesn't rest, and of which the
-- generation is the next where it is the first round
pub record IsPastLimit (u : Uses) (now : ℕ) (deadline : Option ℕ) (told : ℕ) : Type 0 where
  pub rested : (turned u).since ≤ now
  pub next : (turned u).since ≡ 0 → told ≡ use_of (turned u).last + 1
  pub past : (wanted : ℕ) → deadline ≡ Some wanted → 8796093022207 < deadline_in (turned u).since now wanted

-- a generation is the next of a slot with these uses, for a start that has this deadline
pub record IsUse (u : Uses) (now : ℕ) (deadline : Option ℕ) (told : ℕ) : Type 0 where
  pub wanted : ℕ
  pub due : deadline ≡ Some wanted
  pub next_use : IsNextUse u now wanted told

-- of the next use of a slot with these uses
abbrev pub UseBreaks : Uses → ℕ → Option ℕ → ℕ → Reason → Type 0
UseBreaks u now deadline told (Rests until) = IsResting u now until
UseBreaks u now deadline told (OtherGeneration next) = IsNotNext u now deadline told next
UseBreaks u now deadline told NoDeadline = IsPastLimit u now deadline told
UseBreaks u now deadline told _ = ⊥

-- of the start of a timer
abbrev pub ArmBreaks : Settings → State → Actor → TimerRef → Start → Reason → Type 0
ArmBreaks g s by timer start (SlotTaken status) =
    (last_status_of s timer.wheel timer.slot ≡ Some status) × (is_taken (Some status) ≡ true)
ArmBreaks g s by timer start WheelUsed =
    (is_taken (last_status_of s timer.wheel timer.slot) ≡ false)
    × IsUse (uses_at s timer.wheel timer.slot) (looked_at g s by) (deadline_of g start (s.looked by)) timer.generation
    × (9007199254740992 ≤ length (s.rows timer.wheel))
ArmBreaks g s by timer start reason =
    (is_taken (last_status_of s timer.wheel timer.slot) ≡ false)
    × UseBreaks (uses_at s timer.wheel timer.slot) (looked_at g s by) (deadline_of g start (s.looked by)) timer.generation reason

-- of a look at the last timer of a slot
abbrev pub ProbeBreaks : State → ℕ → ℕ → Option Status → Reason → Type 0
ProbeBreaks s wheel slot found (OtherStatus status) = Differs found status (last_status_of s wheel slot)
ProbeBreaks s wheel slot found _ = ⊥

-- of a read or a cancel
abbrev pub LeftBreaks : Settings → State → Actor → TimerRef → Option ℕ → Reason → Type 0
LeftBreaks g s by timer left (OtherLeft is) = Differs left is (left_of g s by timer)
LeftBreaks g s by timer left _ = ⊥

-- of an expiry
abbrev pub ExpireBreaks : Settings → State → Actor → TimerRef → Reason → Type 0
ExpireBreaks g s by timer (NotArmed status) = (status ≡ s.status timer) × (status ≢ Some Armed)
ExpireBreaks g s by timer (NotDue scheduler deadline looked) = IsEarly g s by timer scheduler deadline looked
ExpireBreaks g s by timer (Later first deadline) = IsLater g s by timer first deadline
ExpireBreaks g s by timer NotNext = IsSecond g s by timer
ExpireBreaks g s by timer _ = ⊥

-- of the end of a timer whose destination has exited
abbrev pub OrphanBreaks : State → TimerRef → Reason → Type 0
OrphanBreaks s timer (NotArmed status) = (status ≡ s.status timer) × (status ≢ Some Armed)
OrphanBreaks s timer (NotExited dest) = (s.status timer ≡ Some Armed) × GoesTo s timer dest × (s.exited dest ≡ false)
OrphanBreaks s timer _ = ⊥

-- of the end of an expired timer, which is to be the first that waits
abbrev pub WaitBreaks : List Row → TimerRef → Reason → Type 0
WaitBreaks expired timer NoneWaits = first_of expired ≡ None
WaitBreaks expired timer (OtherWaits first) = IsBehind expired first timer
WaitBreaks expired timer _ = ⊥

-- and goes into the mailbox of its destination
abbrev pub DeliverBreaks : List Row → Option Actor → TimerRef → Reason → Type 0
DeliverBreaks expired with timer (OtherDest dest) = FirstGoesTo expired timer dest × (with ≢ Some (MailOf dest))
DeliverBreaks expired with timer reason = WaitBreaks expired timer reason

-- or is thrown away, where its destination has exited
abbrev pub DropBreaks : List Row → (ℕ → Bool) → TimerRef → Reason → Type 0
DropBreaks expired exited timer (NotExited dest) = FirstGoesTo expired timer dest × (exited dest ≡ false)
DropBreaks expired exited timer reason = WaitBreaks expired timer reason

-- of a look at a process
abbrev pub MarkBreaks : Bool → Bool → Reason → Type 0
MarkBreaks exited was (OtherExit is) = Differs was is exited
MarkBreaks exited was _ = ⊥

-- of an advance
abbrev pub AdvancedBreaks : Settings → State → Actor → ℕ → ℕ → Reason → Type 0
AdvancedBreaks g s by wheel to (OtherMilliseconds looked) = Differs (pos to) looked (down g (s.looked by))
AdvancedBreaks g s by wheel to (StillArmed timer deadline) =
    (pos to ≡ down g (s.looked by)) × IsEarliestArmed s wheel timer deadline × (deadline ≤ to)
AdvancedBreaks g s by wheel to _ = ⊥

-- of a pick
abbrev pub PickBreaks : SchedState → List Request → Option Request → Reason → Type 0
PickBreaks sched inbox got (HandFull request) = sched.hand ≡ Some request
PickBreaks sched inbox got (OtherRequest first) = (sched.hand ≡ None) × Differs got first (first_of inbox)
PickBreaks sched inbox got _ = ⊥

-- of an answer
abbrev pub AnswerBreaks : Settings → SchedState → Option Actor → Option ℕ → Reason → Type 0
AnswerBreaks g sched with left HandEmpty = sched.hand ≡ None
AnswerBreaks g sched with left (OtherAsker process) = IsAskedFor sched process × (with ≢ Some (MailOf process))
AnswerBreaks g sched with left (OtherOutcome outcome) = AnswersAsker g sched with true × (outcome ≡ sched.result) × (outcome ≢ Some left)
AnswerBreaks g sched with left NothingLeft = AnswersAsker g sched with false × (left ≢ None)
AnswerBreaks g sched with left _ = ⊥

-- of a take
abbrev pub TakeBreaks : List Mail → Option Mail → Reason → Type 0
TakeBreaks queue got (OtherMail first) = Differs got first (first_of queue)
TakeBreaks queue got _ = ⊥

-- of the end of a monitor
abbrev pub UnwatchBreaks : MailState → ℕ → Bool → Reason → Type 0
UnwatchBreaks mail monitor was (OtherMonitor stands) = Differs was stands (stands_in monitor mail.monitors)
UnwatchBreaks mail monitor was _ = ⊥

-- of a new monitor
abbrev pub WatchBreaks : ℤ → MailState → ℕ → ℤ → Reason → Type 0
WatchBreaks offset mail monitor told (OtherNumber next) = Differs monitor next mail.next
WatchBreaks offset mail monitor told (TooMany count) =
    (monitor ≡ mail.next) × (count ≡ length mail.monitors) × (64 ≤ count)
WatchBreaks offset mail monitor told (OtherOffset is) =
    (monitor ≡ mail.next) × (length mail.monitors < 64) × Differs told is offset
WatchBreaks offset mail monitor told _ = ⊥

-- of a change that is told
abbrev pub TellBreaks : ℤ → ℤ → Reason → Type 0
TellBreaks offset told (OtherOffset is) = Differs told is offset
TellBreaks offset told _ = ⊥

-- of any event
abbrev pub Breaks : Settings → State → Actor → Option Actor → Event → Reason → Type 0
Breaks g s by with (Tick reading act now) reason = TickBreaks g (face g s.clock) s.clock.due reading act now reason
Breaks g s by with (Shift offset state) reason = ShiftBreaks s.clock.due offset state reason
Breaks g s by with (Look now) reason = LookBreaks s.clock.now now reason
Breaks g s by with (Off offset state) reason = OffBreaks s.clock.offset s.clock.state offset state reason
Breaks g s by with (Arm timer start) reason = ArmBreaks g s by timer start reason
Breaks g s by with (Probe wheel slot found) reason = ProbeBreaks s wheel slot found reason
Breaks g s by with (Peek timer left) reason = LeftBreaks g s by timer left reason
Breaks g s by with (Cancel timer left) reason = LeftBreaks g s by timer left reason
Breaks g s by with (Expire timer) reason = ExpireBreaks g s by timer reason
Breaks g s by with (Orphan timer) reason = OrphanBreaks s timer reason
Breaks g s by with (Deliver timer) reason = DeliverBreaks (s.scheds timer.wheel).expired with timer reason
Breaks g s by with (Drop timer) reason = DropBreaks (s.scheds timer.wheel).expired s.exited timer reason
Breaks g s by with (Mark process exits was) reason = MarkBreaks (s.exited process) was reason
Breaks g s by with (Advanced wheel to) reason = AdvancedBreaks g s by wheel to reason
Breaks g s by with (Ask wheel request) reason = ⊥
Breaks g s by with (Pick wheel got) reason = PickBreaks (s.scheds wheel) (s.inboxes wheel) got reason
Breaks g s by with (Answer wheel left) reason = AnswerBreaks g (s.scheds wheel) with left reason
Breaks g s by with (Take process got) reason = TakeBreaks (s.mails process).queue got reason
Breaks g s by with (Unwatch process monitor was) reason = UnwatchBreaks (s.mails process) monitor was reason
Breaks g s by with (Watch process monitor offset) reason = WatchBreaks s.clock.offset (s.mails process) monitor offset reason
Breaks g s by with (Tell process offset) reason = TellBreaks s.clock.offset offset reason
