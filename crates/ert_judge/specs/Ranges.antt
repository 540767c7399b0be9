-- Who may make an event and with whom, and what an entry names by numbers.

use Rattle.std.specs.Prelude.{◌≡◌, ℕ, nat_le, Option, Some, None, if◌then◌else◌}
use Rattle.std.specs.Option.{option_or}
use Rattle.ert_defs.specs.declared.{entry.Actor.Actor, entry.Actor.TheVariants.{Keeper, Wheel, Inbox, Sched, MailOf, Caller}, entry.Entry.Entry, entry.Event.Event, entry.Event.TheVariants.{Tick, Shift, Look, Off, Arm, Probe, Peek, Cancel}}
use Rattle.ert_defs.specs.declared.{entry.Event.TheVariants.{Expire, Orphan, Deliver, Drop, Mark, Advanced, Ask, Pick, Answer, Take, Unwatch, Watch, Tell}, settings.Settings.Settings}
use Rattle.ert_judge.specs.declared.reasons.{Counted.Counted, Counted.TheVariants.{Callers, Schedulers, Processes, Slots}, Maker.Maker, Maker.TheVariants.{Clock, Scheduler, AnyCaller, User, CallerOr, Reader}, Partner.Partner}
use Rattle.ert_judge.specs.declared.reasons.{Partner.TheVariants.{Nobody, Exactly, SomeCaller, SomeMailbox}, Reason.Reason, Reason.TheVariants.TooHigh}

-- who makes an event
abbrev pub maker_of : Event → Maker
maker_of (Tick reading act now) = Clock
maker_of (Shift offset state) = Clock
maker_of (Look now) = User
maker_of (Off offset state) = Reader
maker_of (Arm timer start) = AnyCaller
maker_of (Probe wheel slot found) = CallerOr wheel
maker_of (Peek timer left) = User
maker_of (Cancel timer left) = User
maker_of (Expire timer) = Scheduler timer.wheel
maker_of (Orphan timer) = AnyCaller
maker_of (Deliver timer) = Scheduler timer.wheel
maker_of (Drop timer) = Scheduler timer.wheel
maker_of (Mark process exits was) = User
maker_of (Advanced wheel to) = Scheduler wheel
maker_of (Ask wheel request) = AnyCaller
maker_of (Pick wheel got) = Scheduler wheel
maker_of (Answer wheel left) = Scheduler wheel
maker_of (Take process got) = AnyCaller
maker_of (Unwatch process monitor was) = AnyCaller
maker_of (Watch process monitor offset) = AnyCaller
maker_of (Tell process offset) = AnyCaller

-- an actor may make such an event, whatever the count of its kind
abbrev pub IsMadeBy : Maker → Actor → Type 0
IsMadeBy Clock by = by ≡ Keeper
IsMadeBy (Scheduler w) by = by ≡ Sched w
IsMadeBy AnyCaller (Caller n) = Unit {0}
IsMadeBy AnyCaller _ = ⊥
IsMadeBy User (Caller n) = Unit {0}
IsMadeBy User (Sched n) = Unit {0}
IsMadeBy User _ = ⊥
IsMadeBy (CallerOr w) (Caller n) = Unit {0}
IsMadeBy (CallerOr w) (Sched n) = n ≡ w
IsMadeBy (CallerOr w) _ = ⊥
IsMadeBy Reader Keeper = Unit {0}
IsMadeBy Reader (Caller n) = Unit {0}
IsMadeBy Reader (Sched n) = Unit {0}
IsMadeBy Reader _ = ⊥

-- with whom the offset is read: the clock does so for a caller
abbrev pub reads_with : Actor → Partner
reads_with Keeper = SomeCaller
reads_with _ = Nobody

-- with whom an event is made by an actor
abbrev pub partner_of : Actor → Event → Partner
partner_of by (Tick reading act now) = SomeCaller
partner_of by (Shift offset state) = SomeCaller
partner_of by (Look now) = Nobody
partner_of by (Off offset state) = reads_with by
partner_of by (Arm timer start) = Exactly (Wheel timer.wheel)
partner_of by (Probe wheel slot found) = Exactly (Wheel wheel)
partner_of by (Peek timer left) = Nobody
partner_of by (Cancel timer left) = Nobody
partner_of by (Expire timer) = Exactly (Wheel timer.wheel)
partner_of by (Orphan timer) = Exactly (Wheel timer.wheel)
partner_of by (Deliver timer) = SomeMailbox
partner_of by (Drop timer) = Nobody
partner_of by (Mark process exits was) = Nobody
partner_of by (Advanced wheel to) = Exactly (Wheel wheel)
partner_of by (Ask wheel request) = Exactly (Inbox wheel)
partner_of by (Pick wheel got) = Exactly (Inbox wheel)
partner_of by (Answer wheel left) = SomeMailbox
partner_of by (Take process got) = Exactly (MailOf process)
partner_of by (Unwatch process monitor was) = Exactly (MailOf process)
partner_of by (Watch process monitor offset) = Exactly (MailOf process)
partner_of by (Tell process offset) = Exactly (MailOf process)

-- an event may be made with a second actor, whatever the count of its kind
abbrev pub IsMadeWith : Partner → Option Actor → Type 0
IsMadeWith Nobody with = with ≡ None
IsMadeWith (Exactly actor) with = with ≡ Some actor
IsMadeWith SomeCaller (Some (Caller n)) = Unit {0}
IsMadeWith SomeCaller _ = ⊥
IsMadeWith SomeMailbox (Some (MailOf p)) = Unit {0}
IsMadeWith SomeMailbox _ = ⊥

-- the scheduler whose timers or inbox an event is about
abbrev pub wheel_of_event : Event → Option ℕ
wheel_of_event (Arm timer start) = Some timer.wheel
wheel_of_event (Probe wheel slot found) = Some wheel
wheel_of_event (Peek timer left) = Some timer.wheel
wheel_of_event (Cancel timer left) = Some timer.wheel
wheel_of_event (Expire timer) = Some timer.wheel
wheel_of_event (Orphan timer) = Some timer.wheel
wheel_of_event (Deliver timer) = Some timer.wheel
wheel_of_event (Drop timer) = Some timer.wheel
wheel_of_event (Advanced wheel to) = Some wheel
wheel_of_event (Ask wheel request) = Some wheel
wheel_of_event (Pick wheel got) = Some wheel
wheel_of_event (Answer wheel left) = Some wheel
wheel_of_event _ = None

-- the slot that it is about
abbrev pub slot_of_event : Event → Option ℕ
slot_of_event (Arm timer start) = Some timer.slot
slot_of_event (Probe wheel slot found) = Some slot
slot_of_event (Peek timer left) = Some timer.slot
slot_of_event (Cancel timer left) = Some timer.slot
slot_of_event (Expire timer) = Some timer.slot
slot_of_event (Orphan timer) = Some timer.slot
slot_of_event (Deliver timer) = Some timer.slot
slot_of_event (Drop timer) = Some timer.slot
slot_of_event _ = None

-- the process that it names
abbrev pub process_of : Event → Option ℕ
process_of (Arm timer start) = Some start.dest
process_of (Mark process exits was) = Some process
process_of (Ask wheel request) = Some request.reply_to
process_of (Take process got) = Some process
process_of (Unwatch process monitor was) = Some process
process_of (Watch process monitor offset) = Some process
process_of (Tell process offset) = Some process
process_of _ = None

-- how many there are of a kind
abbrev pub count_of_kind : Settings → Counted → ℕ
count_of_kind g Callers = g.callers
count_of_kind g Schedulers = g.schedulers
count_of_kind g Processes = g.processes
count_of_kind g Slots = g.slots

-- a number, where there is one and it isn't below the count of its kind
abbrev pub high : Settings → Counted → Option ℕ → Option Reason
high g thing None = None
high g thing (Some n) = if nat_le (count_of_kind g thing) n then Some (TooHigh thing n (count_of_kind g thing)) else None

-- the number of who made an entry
abbrev pub high_by : Settings → Actor → Option Reason
high_by g (Caller n) = high g Callers (Some n)
high_by g (Sched n) = high g Schedulers (Some n)
high_by g _ = None

-- and that of with whom
abbrev pub high_with : Settings → Option Actor → Option Reason
high_with g (Some (Caller n)) = high g Callers (Some n)
high_with g (Some (MailOf n)) = high g Processes (Some n)
high_with g _ = None

-- the first number of an entry that isn't below its count: that of who made it, that of with whom, and those of the
-- scheduler, the slot and the process of its event
abbrev pub too_high : Settings → Entry → Option Reason
too_high g e =
    option_or (option_or (option_or (option_or (high_by g e.by) (high_with g e.with))
    (high g Schedulers (wheel_of_event e.event))) (high g Slots (slot_of_event e.event))) (high g Processes (process_of e.event))

-- an entry is made by and with the actors of its event, and no number of it is too high
pub record MayBeInRange (g : Settings) (e : Entry) : Type 0 where
  pub by : IsMadeBy (maker_of e.event) e.by
  pub with : IsMadeWith (partner_of e.by e.event) e.with
  pub low : too_high g e ≡ None
