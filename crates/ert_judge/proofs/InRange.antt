-- An entry is in range exactly where it is made by and with the actors of its event and names nothing past its count.

use Rattle.std.proofs.Common.{◌≡◌, ◌<◌, ℕ, refl, sym, subst, ◌∙◌, Option, Some, None}
use Rattle.std.specs.Prelude.{IfSome}
use Rattle.ert_defs.specs.{Actors.{IsCaller, IsMaker, IsUser}, Legal.{Keeps, IsWithCaller, IsWithMail, IsProber, IsReader}, declared.entry.Actor.Actor, declared.entry.Actor.TheVariants.{Keeper, Wheel, Inbox, Sched, MailOf, Caller}}
use Rattle.ert_defs.specs.{declared.entry.Entry.Entry, declared.entry.Event.Event, declared.entry.Event.TheVariants.{Tick, Shift, Look, Off, Arm, Probe, Peek, Cancel, Expire, Orphan, Deliver, Drop, Mark, Advanced, Ask, Pick, Answer, Take}}
use Rattle.ert_defs.specs.{declared.entry.Event.TheVariants.{Unwatch, Watch, Tell}, declared.settings.Settings.Settings}
use Rattle.ert_judge.proofs.{Highs.{AreLow, low_high, high_low, all_low, none_too_high}, Makers.{IsPartner, made}}
use Rattle.ert_judge.specs.{Ranges.{maker_of, partner_of, reads_with, wheel_of_event, slot_of_event, process_of, high_by, high_with, IsMadeBy, IsMadeWith, MayBeInRange}, Reasons.BreaksRange, declared.reasons.Counted.TheVariants.Callers}
use Rattle.ert_judge.specs.{declared.reasons.Counted.TheVariants.{Schedulers, Processes}, declared.reasons.Maker.TheVariants.{AnyCaller, User, CallerOr, Reader}, declared.reasons.Partner.TheVariants.{SomeCaller, SomeMailbox}}
use Rattle.ert_judge.specs.{declared.reasons.Reason.Reason, declared.reasons.Reason.TheVariants.{NotBy, NotWith, TooHigh}}

-- a caller in range is a caller
caller_made : (g : Settings) (by : Actor) → IsCaller g by → IsMadeBy AnyCaller by
caller_made g (Caller n) h = tt
caller_made g Keeper h = absurd h
caller_made g (Wheel w) h = absurd h
caller_made g (Inbox w) h = absurd h
caller_made g (Sched w) h = absurd h
caller_made g (MailOf p) h = absurd h

-- a caller or a scheduler in range is one
user_made : (g : Settings) (by : Actor) → IsUser g by → IsMadeBy User by
user_made g (Caller n) h = tt
user_made g (Sched n) h = tt
user_made g Keeper h = absurd h
user_made g (Wheel w) h = absurd h
user_made g (Inbox w) h = absurd h
user_made g (MailOf p) h = absurd h

-- so is who looks at a slot
prober_made : (g : Settings) (wheel : ℕ) (by : Actor) → IsProber g wheel by → IsMadeBy (CallerOr wheel) by
prober_made g wheel (Caller n) h = tt
prober_made g wheel (Sched n) h = h
prober_made g wheel Keeper h = absurd h
prober_made g wheel (Wheel w) h = absurd h
prober_made g wheel (Inbox w) h = absurd h
prober_made g wheel (MailOf p) h = absurd h

-- and who reads the offset
reader_made : (g : Settings) (by : Actor) (with : Option Actor) → IsReader g by with → IsMadeBy Reader by
reader_made g Keeper with h = tt
reader_made g (Caller n) with h = tt
reader_made g (Sched n) with h = tt
reader_made g (Wheel w) with h = absurd h.0
reader_made g (Inbox w) with h = absurd h.0
reader_made g (MailOf p) with h = absurd h.0

with_caller : (g : Settings) (with : Option Actor) → IsWithCaller g with → IsMadeWith SomeCaller with
with_caller g None h = absurd h
with_caller g (Some (Caller n)) h = tt
with_caller g (Some Keeper) h = absurd h
with_caller g (Some (Wheel w)) h = absurd h
with_caller g (Some (Inbox w)) h = absurd h
with_caller g (Some (Sched w)) h = absurd h
with_caller g (Some (MailOf p)) h = absurd h

with_mail : (g : Settings) (with : Option Actor) → IsWithMail g with → IsMadeWith SomeMailbox with
with_mail g None h = absurd h
with_mail g (Some (MailOf p)) h = tt
with_mail g (Some Keeper) h = absurd h
with_mail g (Some (Wheel w)) h = absurd h
with_mail g (Some (Inbox w)) h = absurd h
with_mail g (Some (Sched w)) h = absurd h
with_mail g (Some (Caller n)) h = absurd h

reader_with : (g : Settings) (by : Actor) (with : Option Actor) → IsReader g by with → IsMadeWith (reads_with by) with
reader_with g Keeper with h = with_caller g with h
reader_with g (Caller n) with h = h.1
reader_with g (Sched n) with h = h.1
reader_with g (Wheel w) with h = h.1
reader_with g (Inbox w) with h = h.1
reader_with g (MailOf p) with h = h.1

-- the maker of an entry in range is one of its event
keeps_maker : (g : Settings) (by : Actor) (with : Option Actor) (event : Event) → Keeps g by with event
    → IsMadeBy (maker_of event) by
keeps_maker g by with (Tick reading act now) k = k.0
keeps_maker g by with (Shift offset new) k = k.0
keeps_maker g by with (Look now) k = user_made g by k.0
keeps_maker g by with (Off offset new) k = reader_made g by with k
keeps_maker g by with (Arm timer start) k = caller_made g by k.0
keeps_maker g by with (Probe wheel slot found) k = prober_made g wheel by k.0
keeps_maker g by with (Peek timer left) k = user_made g by k.0
keeps_maker g by with (Cancel timer left) k = user_made g by k.0
keeps_maker g by with (Expire timer) k = k.0
keeps_maker g by with (Orphan timer) k = caller_made g by k.0
keeps_maker g by with (Deliver timer) k = k.0
keeps_maker g by with (Drop timer) k = k.0
keeps_maker g by with (Mark process exits was) k = user_made g by k.0
keeps_maker g by with (Advanced wheel to) k = k.0
keeps_maker g by with (Ask wheel request) k = caller_made g by k.0
keeps_maker g by with (Pick wheel got) k = k.0
keeps_maker g by with (Answer wheel left) k = k.0
keeps_maker g by with (Take process got) k = caller_made g by k.0
keeps_maker g by with (Unwatch process monitor was) k = caller_made g by k.0
keeps_maker g by with (Watch process monitor offset) k = caller_made g by k.0
keeps_maker g by with (Tell process offset) k = caller_made g by k.0

-- and so is its second actor
keeps_partner : (g : Settings) (by : Actor) (with : Option Actor) (event : Event) → Keeps g by with event
    → IsMadeWith (partner_of by event) with
keeps_partner g by with (Tick reading act now) k = with_caller g with k.1
keeps_partner g by with (Shift offset new) k = with_caller g with k.1
keeps_partner g by with (Look now) k = k.1
keeps_partner g by with (Off offset new) k = reader_with g by with k
keeps_partner g by with (Arm timer start) k = k.1
keeps_partner g by with (Probe wheel slot found) k = k.1
keeps_partner g by with (Peek timer left) k = k.1
keeps_partner g by with (Cancel timer left) k = k.1
keeps_partner g by with (Expire timer) k = k.1
keeps_partner g by with (Orphan timer) k = k.1
keeps_partner g by with (Deliver timer) k = with_mail g with k.1
keeps_partner g by with (Drop timer) k = k.1
keeps_partner g by with (Mark process exits was) k = k.1
keeps_partner g by with (Advanced wheel to) k = k.1
keeps_partner g by with (Ask wheel request) k = k.1
keeps_partner g by with (Pick wheel got) k = k.1
keeps_partner g by with (Answer wheel left) k = with_mail g with k.1
keeps_partner g by with (Take process got) k = k.1
keeps_partner g by with (Unwatch process monitor was) k = k.1
keeps_partner g by with (Watch process monitor offset) k = k.1
keeps_partner g by with (Tell process offset) k = k.1

-- what an entry in range names is below its count
wheel_below : (g : Settings) (by : Actor) (with : Option Actor) (event : Event) → Keeps g by with event
    → IfSome (wheel_of_event event) (λ n. n < g.schedulers)
wheel_below g by with (Arm timer start) k = k.2.wheel_high
wheel_below g by with (Probe wheel slot found) k = k.2.wheel_high
wheel_below g by with (Peek timer left) k = k.2.wheel_high
wheel_below g by with (Cancel timer left) k = k.2.wheel_high
wheel_below g by with (Expire timer) k = k.2.wheel_high
wheel_below g by with (Orphan timer) k = k.2.wheel_high
wheel_below g by with (Deliver timer) k = k.2.wheel_high
wheel_below g by with (Drop timer) k = k.2.wheel_high
wheel_below g by with (Advanced wheel to) k = k.2
wheel_below g by with (Ask wheel request) k = k.2
wheel_below g by with (Pick wheel got) k = k.2
wheel_below g by with (Answer wheel left) k = k.2
wheel_below g by with _ k = tt

slot_below : (g : Settings) (by : Actor) (with : Option Actor) (event : Event) → Keeps g by with event
    → IfSome (slot_of_event event) (λ n. n < g.slots)
slot_below g by with (Arm timer start) k = k.2.slot_high
slot_below g by with (Probe wheel slot found) k = k.2.slot_high
slot_below g by with (Peek timer left) k = k.2.slot_high
slot_below g by with (Cancel timer left) k = k.2.slot_high
slot_below g by with (Expire timer) k = k.2.slot_high
slot_below g by with (Orphan timer) k = k.2.slot_high
slot_below g by with (Deliver timer) k = k.2.slot_high
slot_below g by with (Drop timer) k = k.2.slot_high
slot_below g by with _ k = tt

process_below : (g : Settings) (by : Actor) (with : Option Actor) (event : Event) → Keeps g by with event
    → IfSome (process_of event) (λ n. n < g.processes)
process_below g by with (Arm timer start) k = k.3
process_below g by with (Mark process exits was) k = k.2
process_below g by with (Ask wheel request) k = k.3
process_below g by with (Take process got) k = k.2
process_below g by with (Unwatch process monitor was) k = k.2
process_below g by with (Watch process monitor offset) k = k.2
process_below g by with (Tell process offset) k = k.2
process_below g by with _ k = tt

maker_low : (g : Settings) (by : Actor) → IsMaker g by → high_by g by ≡ None
maker_low g (Caller n) h = low_high g Callers (Some n) h
maker_low g (Sched n) h = low_high g Schedulers (Some n) h
maker_low g _ h = refl

partner_low : (g : Settings) (with : Option Actor) → IsPartner g with → high_with g with ≡ None
partner_low g (Some (Caller n)) h = low_high g Callers (Some n) h
partner_low g (Some (MailOf p)) h = low_high g Processes (Some p) h
partner_low g _ h = refl

-- an entry in range has the actors of its event and no number that is too high
keeps_in_range : (g : Settings) (e : Entry) → Keeps g e.by e.with e.event → MayBeInRange g e
keeps_in_range g e k = let is = made g e.by e.with e.event k in record {
  by = keeps_maker g e.by e.with e.event k;
  with = keeps_partner g e.by e.with e.event k;
  low = none_too_high g e (record {
    by = maker_low g e.by is.maker;
    with = partner_low g e.with is.partner;
    wheel = wheel_below g e.by e.with e.event k;
    slot = slot_below g e.by e.with e.event k;
    process = process_below g e.by e.with e.event k;
  });
}

-- a reason of the range excludes an entry in range
pub range_excludes : (g : Settings) (e : Entry) (r : Reason) → BreaksRange g e r → Keeps g e.by e.with e.event → ⊥
range_excludes g e r h k = broken r h (keeps_in_range g e k)
  where
    broken : (r : Reason) → BreaksRange g e r → MayBeInRange g e → ⊥
    broken (NotBy maker) h m = h.1 (subst (λ x. IsMadeBy x e.by) (sym h.0) m.by)
    broken (NotWith partner) h m = h.2 (subst (λ x. IsMadeWith x e.with) (sym h.1) m.with)
    broken (TooHigh thing n count) h m = let is : None ≡ Some (TooHigh thing n count) = sym m.low ∙ h.2 in absurd cc
    broken _ h m = absurd h

-- an actor that makes entries is in range where its number is
caller_in : (g : Settings) (by : Actor) → IsMadeBy AnyCaller by → high_by g by ≡ None → IsCaller g by
caller_in g (Caller n) m low = high_low g Callers (Some n) low
caller_in g _ m low = absurd m

user_in : (g : Settings) (by : Actor) → IsMadeBy User by → high_by g by ≡ None → IsUser g by
user_in g (Caller n) m low = high_low g Callers (Some n) low
user_in g (Sched n) m low = high_low g Schedulers (Some n) low
user_in g _ m low = absurd m

prober_in : (g : Settings) (wheel : ℕ) (by : Actor) → IsMadeBy (CallerOr wheel) by → high_by g by ≡ None → IsProber g wheel by
prober_in g wheel (Caller n) m low = high_low g Callers (Some n) low
prober_in g wheel (Sched n) m low = m
prober_in g wheel _ m low = absurd m

-- so is one that they are made with
caller_with : (g : Settings) (with : Option Actor) → IsMadeWith SomeCaller with → high_with g with ≡ None → IsWithCaller g with
caller_with g (Some (Caller n)) m low = high_low g Callers (Some n) low
caller_with g _ m low = absurd m

mail_with : (g : Settings) (with : Option Actor) → IsMadeWith SomeMailbox with → high_with g with ≡ None → IsWithMail g with
mail_with g (Some (MailOf p)) m low = high_low g Processes (Some p) low
mail_with g _ m low = absurd m

reader_in : (g : Settings) (by : Actor) (with : Option Actor) → IsMadeBy Reader by → IsMadeWith (reads_with by) with
    → high_by g by ≡ None → high_with g with ≡ None → IsReader g by with
reader_in g Keeper with m p low low_with = caller_with g with p low_with
reader_in g (Caller n) with m p low low_with = (high_low g Callers (Some n) low, p)
reader_in g (Sched n) with m p low low_with = (high_low g Schedulers (Some n) low, p)
reader_in g _ with m p low low_with = absurd m

-- an entry with this event that has its actors and no number that is too high is in range
of_event : (g : Settings) (by : Actor) (with : Option Actor) (event : Event) → MayBeInRange g (record { by = by; with = with; event = event })
    → AreLow g (record { by = by; with = with; event = event }) → Keeps g by with event
of_event g by with (Tick reading act now) m l = (m.by, caller_with g with m.with l.with)
of_event g by with (Shift offset new) m l = (m.by, caller_with g with m.with l.with)
of_event g by with (Look now) m l = (user_in g by m.by l.by, m.with)
of_event g by with (Off offset new) m l = reader_in g by with m.by m.with l.by l.with
of_event g by with (Arm timer start) m l = (caller_in g by m.by l.by, m.with, record { wheel_high = l.wheel; slot_high = l.slot }, l.process)
of_event g by with (Probe wheel slot found) m l = (prober_in g wheel by m.by l.by, m.with, record { wheel_high = l.wheel; slot_high = l.slot })
of_event g by with (Peek timer left) m l = (user_in g by m.by l.by, m.with, record { wheel_high = l.wheel; slot_high = l.slot })
of_event g by with (Cancel timer left) m l = (user_in g by m.by l.by, m.with, record { wheel_high = l.wheel; slot_high = l.slot })
of_event g by with (Expire timer) m l = (m.by, m.with, record { wheel_high = l.wheel; slot_high = l.slot })
of_event g by with (Orphan timer) m l = (caller_in g by m.by l.by, m.with, record { wheel_high = l.wheel; slot_high = l.slot })
of_event g by with (Deliver timer) m l = (m.by, mail_with g with m.with l.with, record { wheel_high = l.wheel; slot_high = l.slot })
of_event g by with (Drop timer) m l = (m.by, m.with, record { wheel_high = l.wheel; slot_high = l.slot })
of_event g by with (Mark process exits was) m l = (user_in g by m.by l.by, m.with, l.process)
of_event g by with (Advanced wheel to) m l = (m.by, m.with, l.wheel)
of_event g by with (Ask wheel request) m l = (caller_in g by m.by l.by, m.with, l.wheel, l.process)
of_event g by with (Pick wheel got) m l = (m.by, m.with, l.wheel)
of_event g by with (Answer wheel left) m l = (m.by, mail_with g with m.with l.with, l.wheel)
of_event g by with (Take process got) m l = (caller_in g by m.by l.by, m.with, l.process)
of_event g by with (Unwatch process monitor was) m l = (caller_in g by m.by l.by, m.with, l.process)
of_event g by with (Watch process monitor offset) m l = (caller_in g by m.by l.by, m.with, l.process)
of_event g by with (Tell process offset) m l = (caller_in g by m.by l.by, m.with, l.process)

-- an entry that has the actors of its event and no number that is too high is in range
pub in_range_keeps : (g : Settings) (e : Entry) → MayBeInRange g e → Keeps g e.by e.with e.event
in_range_keeps g e m = of_event g e.by e.with e.event m (all_low g e m.low)
