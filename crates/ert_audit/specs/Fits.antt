-- The ranges of the numbers in settings and entries: those of their types in the code.

use Rattle.std.specs.Prelude.{◌≡◌, ℕ, ℤ, ◌^◌, ◌<◌, Option, FitsSigned, IfSome}
use Rattle.std.specs.Int.{w64}
use Rattle.ert_defs.specs.declared.{entry.Actor.Actor, entry.Actor.TheVariants.{Keeper, Wheel, Inbox, Sched, MailOf, Caller}, entry.Entry.Entry, entry.Event.Event, entry.Event.TheVariants.{Tick, Shift, Look, Off, Arm, Probe, Peek, Cancel}}
use Rattle.ert_defs.specs.declared.{entry.Event.TheVariants.{Expire, Orphan, Deliver, Drop, Mark, Advanced, Ask, Pick, Answer, Take, Unwatch, Watch, Tell}, mail.Mail.Mail, mail.Mail.TheVariants.{Timeout, Bare as BareMail, CancelDone}}
use Rattle.ert_defs.specs.declared.{mail.Mail.TheVariants.{ReadDone, Change}, mail.Request.Request, settings.Reading.Reading, settings.Settings.Settings, settings.TheConstants.SCENARIO_LOOKS, timer.Start.Start, timer.TimerRef.TimerRef}
use Rattle.ert_defs.specs.declared.{timer.When.When, timer.When.TheVariants.{After, At}}

-- a number of 32 bits
abbrev pub Fits32 : ℕ → Type 0
Fits32 n = n < 2 ^ 32

-- a number of 64 bits
abbrev pub Fits64 : ℕ → Type 0
Fits64 n = n < 2 ^ 64

-- a number of 64 bits that may be negative
abbrev pub FitsInt : ℤ → Type 0
FitsInt z = FitsSigned w64 z

-- the number of an actor
abbrev pub FitsActor : Actor → Type 0
FitsActor Keeper = Unit {0}
FitsActor (Wheel n) = Fits32 n
FitsActor (Inbox n) = Fits32 n
FitsActor (Sched n) = Fits32 n
FitsActor (MailOf n) = Fits32 n
FitsActor (Caller n) = Fits32 n

-- both times of a reading
abbrev pub FitsReading : Reading → Type 0
FitsReading r = FitsInt r.mono × FitsInt r.sys

-- the three numbers of a reference
abbrev pub FitsTimer : TimerRef → Type 0
FitsTimer t = Fits32 t.wheel × Fits32 t.slot × Fits64 t.generation

-- when a timer is to expire
abbrev pub FitsWhen : When → Type 0
FitsWhen (After z) = FitsInt z
FitsWhen (At z) = FitsInt z

-- what a timer is started with
abbrev pub FitsStart : Start → Type 0
FitsStart s = FitsWhen s.when × Fits32 s.dest × Fits64 s.msg

-- a request
abbrev pub FitsRequest : Request → Type 0
FitsRequest r = FitsTimer r.timer × Fits32 r.reply_to

-- how many milliseconds were left
abbrev pub FitsLeft : Option ℕ → Type 0
FitsLeft left = IfSome left Fits64

-- a message in a mailbox
abbrev pub FitsMail : Mail → Type 0
FitsMail (Timeout timer msg) = FitsTimer timer × Fits64 msg
FitsMail (BareMail msg) = Fits64 msg
FitsMail (CancelDone timer left) = FitsTimer timer × FitsLeft left
FitsMail (ReadDone timer left) = FitsTimer timer × FitsLeft left
FitsMail (Change monitor offset) = Fits32 monitor × FitsInt offset

-- the fields of an event
abbrev pub FitsEvent : Event → Type 0
FitsEvent (Tick reading act now) = FitsReading reading × FitsInt now
FitsEvent (Shift offset state) = FitsInt offset
FitsEvent (Look now) = FitsInt now
FitsEvent (Off offset state) = FitsInt offset
FitsEvent (Arm timer start) = FitsTimer timer × FitsStart start
FitsEvent (Probe wheel slot found) = Fits32 wheel × Fits32 slot
FitsEvent (Peek timer left) = FitsTimer timer × FitsLeft left
FitsEvent (Cancel timer left) = FitsTimer timer × FitsLeft left
FitsEvent (Expire timer) = FitsTimer timer
FitsEvent (Orphan timer) = FitsTimer timer
FitsEvent (Deliver timer) = FitsTimer timer
FitsEvent (Drop timer) = FitsTimer timer
FitsEvent (Mark process exits was) = Fits32 process
FitsEvent (Advanced wheel to) = Fits32 wheel × Fits64 to
FitsEvent (Ask wheel request) = Fits32 wheel × FitsRequest request
FitsEvent (Pick wheel got) = Fits32 wheel × IfSome got FitsRequest
FitsEvent (Answer wheel left) = Fits32 wheel × FitsLeft left
FitsEvent (Take process got) = Fits32 process × IfSome got FitsMail
FitsEvent (Unwatch process monitor was) = Fits32 process × Fits32 monitor
FitsEvent (Watch process monitor offset) = Fits32 process × Fits32 monitor × FitsInt offset
FitsEvent (Tell process offset) = Fits32 process × FitsInt offset

-- an entry
pub record FitsEntry (e : Entry) : Type 0 where
  pub by : FitsActor e.by
  pub with : IfSome e.with FitsActor
  pub event : FitsEvent e.event

-- settings; their looks stand in no line, and are those of scenarios
pub record FitsSettings (g : Settings) : Type 0 where
  pub start : FitsInt g.start
  pub schedulers : Fits32 g.schedulers
  pub processes : Fits32 g.processes
  pub slots : Fits32 g.slots
  pub looks : g.looks ≡ SCENARIO_LOOKS
  pub callers : Fits32 g.callers
  pub first : FitsReading g.first
