-- With whom an entry is made is in range, and no entry of others has an actor that a pass holds.

use Rattle.std.proofs.Common.{◌≡◌, Bool, true, false, ◌||◌, List, [], ◌∷◌, Option, Some, None, refl, sym, ap, subst, ◌∙◌}
use Rattle.ert_defs.specs.{Actors.{same_actor, has_actor, is_with, IsCaller}, Entries.is_ours, Legal.{IsReader, IsWithCaller, IsWithMail, Keeps}, declared.entry.Actor.Actor, declared.entry.Actor.TheVariants.{Keeper, Wheel, Inbox, MailOf}}
use Rattle.ert_defs.specs.{declared.entry.Actor.TheVariants.Caller, declared.entry.Entry.Entry, declared.entry.Event.Event, declared.entry.Event.TheVariants.{Tick, Shift, Look, Off, Arm, Probe, Peek, Cancel, Expire, Orphan, Deliver, Drop}}
use Rattle.ert_defs.specs.{declared.entry.Event.TheVariants.{Mark, Advanced, Ask, Pick, Answer, Take, Unwatch, Watch, Tell}, declared.settings.Settings.Settings}
use Rattle.ert_shard.specs.Shards.{has_any, is_with_any}
use Rattle.ert_table.proofs.{Calls.made_ours, Closings.maker_in_range, Holders.{or_left, or_right, same_actor_self, same_actor-true}}
use Rattle.ert_table.specs.Held.{is_held, IsActor}

-- an actor that there may be is in range
abbrev IsPartner : Settings → Option Actor → Type 0
IsPartner g None = Unit {0}
IsPartner g (Some a) = IsActor g a

one : (g : Settings) (with : Option Actor) (a : Actor) → with ≡ Some a → IsActor g a → IsPartner g with
one g with a is ranged = subst (IsPartner g) (sym is) ranged

none : (g : Settings) (with : Option Actor) → with ≡ None → IsPartner g with
none g with is = subst (IsPartner g) (sym is) tt

caller : (g : Settings) (a : Actor) → IsCaller g a → IsActor g a
caller g (Caller n) h = h
caller g _ h = absurd h

with_caller : (g : Settings) (with : Option Actor) → IsWithCaller g with → IsPartner g with
with_caller g None h = tt
with_caller g (Some a) h = caller g a h

with_mail : (g : Settings) (with : Option Actor) → IsWithMail g with → IsPartner g with
with_mail g None h = tt
with_mail g (Some (MailOf p)) h = h
with_mail g (Some _) h = absurd h

reader : (g : Settings) (by : Actor) (with : Option Actor) → IsReader g by with → IsPartner g with
reader g Keeper with h = with_caller g with h
reader g _ with h = none g with h.1

-- with whom an entry in range is made is in range
partner_in_range : (g : Settings) (by : Actor) (with : Option Actor) (event : Event) → Keeps g by with event → IsPartner g with
partner_in_range g by with (Tick reading act now) h = with_caller g with h.1
partner_in_range g by with (Shift offset state) h = with_caller g with h.1
partner_in_range g by with (Look now) h = none g with h.1
partner_in_range g by with (Off offset state) h = reader g by with h
partner_in_range g by with (Arm timer start) h = one g with (Wheel timer.wheel) h.1 h.2.wheel_high
partner_in_range g by with (Probe wheel slot found) h = one g with (Wheel wheel) h.1 h.2.wheel_high
partner_in_range g by with (Peek timer left) h = none g with h.1
partner_in_range g by with (Cancel timer left) h = none g with h.1
partner_in_range g by with (Expire timer) h = one g with (Wheel timer.wheel) h.1 h.2.wheel_high
partner_in_range g by with (Orphan timer) h = one g with (Wheel timer.wheel) h.1 h.2.wheel_high
partner_in_range g by with (Deliver timer) h = with_mail g with h.1
partner_in_range g by with (Drop timer) h = none g with h.1
partner_in_range g by with (Mark process exits was) h = none g with h.1
partner_in_range g by with (Advanced wheel to) h = one g with (Wheel wheel) h.1 h.2
partner_in_range g by with (Ask wheel request) h = one g with (Inbox wheel) h.1 h.2
partner_in_range g by with (Pick wheel got) h = one g with (Inbox wheel) h.1 h.2
partner_in_range g by with (Answer wheel left) h = with_mail g with h.1
partner_in_range g by with (Take process got) h = one g with (MailOf process) h.1 h.2
partner_in_range g by with (Unwatch process monitor was) h = one g with (MailOf process) h.1 h.2
partner_in_range g by with (Watch process monitor offset) h = one g with (MailOf process) h.1 h.2
partner_in_range g by with (Tell process offset) h = one g with (MailOf process) h.1 h.2

-- an entry that is made with one of these actors is theirs
with_ours : (actors : List Actor) (e : Entry) (a : Actor) → e.with ≡ Some a → is_held actors a ≡ true → is_ours actors e ≡ true
with_ours [] e a is held = absurd cc
with_ours (b ∷ actors) e a is held = at (same_actor b a) refl (with_ours actors e a is)
  where
    at : (t : Bool) → same_actor b a ≡ t → (is_held actors a ≡ true → is_ours actors e ≡ true) → is_ours (b ∷ actors) e ≡ true
    at true same more =
        let own : has_actor e b ≡ true =
        or_right (same_actor e.by b) (is_with e.with b)
        (ap (λ (o : Option Actor). is_with o b) is ∙ subst (λ c. same_actor a c ≡ true) (sym (same_actor-true b a same)) (same_actor_self a)) in
        or_left (has_actor e b) (is_ours actors e) own
    at false apart more =
        let rest : is_held actors a ≡ true = rw apart at held in
        or_right (has_actor e b) (is_ours actors e) (more rest)

-- an entry of others has no actor that a pass holds
pub none_any : (g : Settings) (actors : List Actor) (own : Actor → Bool) → ((a : Actor) → IsActor g a → is_held actors a ≡ own a) → (e : Entry)
    → Keeps g e.by e.with e.event → is_ours actors e ≡ false → has_any own e ≡ false
none_any g actors own holds e keeps theirs = both maker (partner e.with refl (partner_in_range g e.by e.with e.event keeps))
  where
    both : own e.by ≡ false → is_with_any own e.with ≡ false → (own e.by || is_with_any own e.with) ≡ false
    both one other = ap (λ b. b || is_with_any own e.with) one ∙ other

    away : (a : Actor) → (is_held actors a ≡ true → is_ours actors e ≡ true) → (b : Bool) → is_held actors a ≡ b → is_held actors a ≡ false
    away a mine true is = let clash : true ≡ false = sym (mine is) ∙ theirs in absurd cc
    away a mine false is = is

    maker : own e.by ≡ false
    maker = sym (holds e.by (maker_in_range g e.by e.with e.event keeps)) ∙ away e.by (made_ours actors e) (is_held actors e.by) refl

    partner : (with : Option Actor) → e.with ≡ with → IsPartner g with → is_with_any own with ≡ false
    partner None is ranged = refl
    partner (Some a) is ranged = sym (holds a ranged) ∙ away a (with_ours actors e a is) (is_held actors a) refl
