-- Who makes an entry in range, and with whom.

use Rattle.std.proofs.Common.{◌≡◌, ◌<◌, ℕ, refl, sym, subst, false, Option, Some, None}
use Rattle.std.specs.Prelude.{ℤ}
use Rattle.ert_defs.specs.{Actors.{same_actor, is_with, IsCaller, IsMaker, IsUser}, Legal.{Keeps, IsWithCaller, IsWithMail, IsProber, IsReader}, declared.entry.Actor.Actor, declared.entry.Actor.TheVariants.{Keeper, Wheel, Inbox, Sched}}
use Rattle.ert_defs.specs.{declared.entry.Actor.TheVariants.{MailOf, Caller}, declared.entry.Event.Event, declared.entry.Event.TheVariants.{Tick, Shift, Look, Off, Arm, Probe, Peek, Cancel, Expire, Orphan, Deliver, Drop, Mark, Advanced}}
use Rattle.ert_defs.specs.{declared.entry.Event.TheVariants.{Ask, Pick, Answer, Take, Unwatch, Watch, Tell}, declared.settings.Settings.Settings}

-- entries are made alone, or with a wheel, an inbox, a mailbox or a caller in range
abbrev pub IsPartner : Settings → Option Actor → Type 0
IsPartner g None = Unit {0}
IsPartner g (Some (Wheel w)) = w < g.schedulers
IsPartner g (Some (Inbox w)) = w < g.schedulers
IsPartner g (Some (MailOf p)) = p < g.processes
IsPartner g (Some (Caller n)) = n < g.callers
IsPartner g (Some _) = ⊥

-- an entry is made so
pub record IsMade (g : Settings) (by : Actor) (with : Option Actor) : Type 0 where
  pub maker : IsMaker g by
  pub partner : IsPartner g with

caller_makes : (g : Settings) (by : Actor) → IsCaller g by → IsMaker g by
caller_makes g (Caller n) h = h
caller_makes g Keeper h = absurd h
caller_makes g (Wheel w) h = absurd h
caller_makes g (Inbox w) h = absurd h
caller_makes g (Sched w) h = absurd h
caller_makes g (MailOf p) h = absurd h

user_makes : (g : Settings) (by : Actor) → IsUser g by → IsMaker g by
user_makes g (Caller n) h = h
user_makes g (Sched n) h = h
user_makes g Keeper h = absurd h
user_makes g (Wheel w) h = absurd h
user_makes g (Inbox w) h = absurd h
user_makes g (MailOf p) h = absurd h

prober_makes : (g : Settings) (wheel : ℕ) (by : Actor) → wheel < g.schedulers → IsProber g wheel by → IsMaker g by
prober_makes g wheel (Caller n) below h = h
prober_makes g wheel (Sched n) below h = subst (λ (x : ℕ). x < g.schedulers) (sym h) below
prober_makes g wheel Keeper below h = absurd h
prober_makes g wheel (Wheel w) below h = absurd h
prober_makes g wheel (Inbox w) below h = absurd h
prober_makes g wheel (MailOf p) below h = absurd h

is_maker : (g : Settings) (by a : Actor) → by ≡ a → IsMaker g a → IsMaker g by
is_maker g by a e h = subst (IsMaker g) (sym e) h

is_partner : (g : Settings) (with a : Option Actor) → with ≡ a → IsPartner g a → IsPartner g with
is_partner g with a e h = subst (IsPartner g) (sym e) h

with_caller : (g : Settings) (with : Option Actor) → IsWithCaller g with → IsPartner g with
with_caller g None h = absurd h
with_caller g (Some (Caller n)) h = h
with_caller g (Some Keeper) h = absurd h
with_caller g (Some (Wheel w)) h = absurd h
with_caller g (Some (Inbox w)) h = absurd h
with_caller g (Some (Sched w)) h = absurd h
with_caller g (Some (MailOf p)) h = absurd h

with_mail : (g : Settings) (with : Option Actor) → IsWithMail g with → IsPartner g with
with_mail g None h = absurd h
with_mail g (Some (MailOf p)) h = h
with_mail g (Some Keeper) h = absurd h
with_mail g (Some (Wheel w)) h = absurd h
with_mail g (Some (Inbox w)) h = absurd h
with_mail g (Some (Sched w)) h = absurd h
with_mail g (Some (Caller n)) h = absurd h

reader_made : (g : Settings) (by : Actor) (with : Option Actor) → IsReader g by with → IsMade g by with
reader_made g Keeper with h = record { maker = tt; partner = with_caller g with h }
reader_made g (Caller n) with h = record { maker = h.0; partner = is_partner g with None h.1 tt }
reader_made g (Sched n) with h = record { maker = h.0; partner = is_partner g with None h.1 tt }
reader_made g (Wheel w) with h = absurd h.0
reader_made g (Inbox w) with h = absurd h.0
reader_made g (MailOf p) with h = absurd h.0

-- an entry in range is made so
pub made : (g : Settings) (by : Actor) (with : Option Actor) (event : Event) → Keeps g by with event → IsMade g by with
made g by with (Tick reading act now) k = record { maker = is_maker g by Keeper k.0 tt; partner = with_caller g with k.1 }
made g by with (Shift offset new) k = record { maker = is_maker g by Keeper k.0 tt; partner = with_caller g with k.1 }
made g by with (Look now) k = record { maker = user_makes g by k.0; partner = is_partner g with None k.1 tt }
made g by with (Off offset new) k = reader_made g by with k
made g by with (Arm timer start) k = record { maker = caller_makes g by k.0; partner = is_partner g with (Some (Wheel timer.wheel)) k.1 k.2.wheel_high }
made g by with (Probe wheel slot found) k = record { maker = prober_makes g wheel by k.2.wheel_high k.0; partner = is_partner g with (Some (Wheel wheel)) k.1 k.2.wheel_high }
made g by with (Peek timer left) k = record { maker = user_makes g by k.0; partner = is_partner g with None k.1 tt }
made g by with (Cancel timer left) k = record { maker = user_makes g by k.0; partner = is_partner g with None k.1 tt }
made g by with (Expire timer) k = record { maker = is_maker g by (Sched timer.wheel) k.0 k.2.wheel_high; partner = is_partner g with (Some (Wheel timer.wheel)) k.1 k.2.wheel_high }
made g by with (Orphan timer) k = record { maker = caller_makes g by k.0; partner = is_partner g with (Some (Wheel timer.wheel)) k.1 k.2.wheel_high }
made g by with (Deliver timer) k = record { maker = is_maker g by (Sched timer.wheel) k.0 k.2.wheel_high; partner = with_mail g with k.1 }
made g by with (Drop timer) k = record { maker = is_maker g by (Sched timer.wheel) k.0 k.2.wheel_high; partner = is_partner g with None k.1 tt }
made g by with (Mark process exits was) k = record { maker = user_makes g by k.0; partner = is_partner g with None k.1 tt }
made g by with (Advanced wheel to) k = record { maker = is_maker g by (Sched wheel) k.0 k.2; partner = is_partner g with (Some (Wheel wheel)) k.1 k.2 }
made g by with (Ask wheel request) k = record { maker = caller_makes g by k.0; partner = is_partner g with (Some (Inbox wheel)) k.1 k.2 }
made g by with (Pick wheel got) k = record { maker = is_maker g by (Sched wheel) k.0 k.2; partner = is_partner g with (Some (Inbox wheel)) k.1 k.2 }
made g by with (Answer wheel left) k = record { maker = is_maker g by (Sched wheel) k.0 k.2; partner = with_mail g with k.1 }
made g by with (Take process got) k = record { maker = caller_makes g by k.0; partner = is_partner g with (Some (MailOf process)) k.1 k.2 }
made g by with (Unwatch process monitor was) k = record { maker = caller_makes g by k.0; partner = is_partner g with (Some (MailOf process)) k.1 k.2 }
made g by with (Watch process monitor offset) k = record { maker = caller_makes g by k.0; partner = is_partner g with (Some (MailOf process)) k.1 k.2 }
made g by with (Tell process offset) k = record { maker = caller_makes g by k.0; partner = is_partner g with (Some (MailOf process)) k.1 k.2 }

-- no wheel, inbox or mailbox makes an entry
pub not_by_wheel : (g : Settings) (by : Actor) (w : ℕ) → IsMaker g by → same_actor by (Wheel w) ≡ false
not_by_wheel g Keeper w h = refl
not_by_wheel g (Sched n) w h = refl
not_by_wheel g (Caller n) w h = refl
not_by_wheel g (Wheel v) w h = absurd h
not_by_wheel g (Inbox v) w h = absurd h
not_by_wheel g (MailOf p) w h = absurd h

pub not_by_inbox : (g : Settings) (by : Actor) (w : ℕ) → IsMaker g by → same_actor by (Inbox w) ≡ false
not_by_inbox g Keeper w h = refl
not_by_inbox g (Sched n) w h = refl
not_by_inbox g (Caller n) w h = refl
not_by_inbox g (Wheel v) w h = absurd h
not_by_inbox g (Inbox v) w h = absurd h
not_by_inbox g (MailOf p) w h = absurd h

pub not_by_mail : (g : Settings) (by : Actor) (p : ℕ) → IsMaker g by → same_actor by (MailOf p) ≡ false
not_by_mail g Keeper p h = refl
not_by_mail g (Sched n) p h = refl
not_by_mail g (Caller n) p h = refl
not_by_mail g (Wheel v) p h = absurd h
not_by_mail g (Inbox v) p h = absurd h
not_by_mail g (MailOf q) p h = absurd h

-- no entry is made with a scheduler
pub not_with_sched : (g : Settings) (with : Option Actor) (w : ℕ) → IsPartner g with → is_with with (Sched w) ≡ false
not_with_sched g None w h = refl
not_with_sched g (Some (Wheel v)) w h = refl
not_with_sched g (Some (Inbox v)) w h = refl
not_with_sched g (Some (MailOf p)) w h = refl
not_with_sched g (Some (Caller n)) w h = refl
not_with_sched g (Some Keeper) w h = absurd h
not_with_sched g (Some (Sched v)) w h = absurd h

-- who looks is a caller or a scheduler in range
pub looker : (g : Settings) (by : Actor) (with : Option Actor) (now : ℤ) → Keeps g by with (Look now) → IsUser g by
looker g by with now k = k.0
