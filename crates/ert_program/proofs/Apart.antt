-- An entry of a legal history has one user, a caller or a scheduler: so what one made is free of every other.

use Rattle.std.proofs.Common.{◌≡◌, ℕ, Bool, true, false, ◌||◌, List, [], ◌∷◌, Option, Some, None, refl, sym, subst}
use Rattle.ert_defs.specs.{Actors.{same_actor, is_with, IsFree, IsUser}, Legal.{Keeps, IsReader, IsWithMail, LegalFrom}, States.{State, next}, declared.entry.Actor.Actor, declared.entry.Actor.TheVariants.{Keeper, Wheel, Inbox, Sched}}
use Rattle.ert_defs.specs.{declared.entry.Actor.TheVariants.{MailOf, Caller}, declared.entry.Entry.Entry, declared.entry.Event.Event, declared.entry.Event.TheVariants.{Tick, Shift, Look, Off, Arm, Probe, Peek, Cancel, Expire, Orphan}}
use Rattle.ert_defs.specs.{declared.entry.Event.TheVariants.{Deliver, Drop, Mark, Advanced, Ask, Pick, Answer, Take, Unwatch, Watch, Tell}, declared.settings.Settings.Settings}
use Rattle.ert_table.proofs.Holders.{same_actor-true}
use Rattle.ert_locks.specs.Lent.{AllHave}

one_of : (c a b : Actor) → same_actor a b ≡ false → same_actor c a ≡ true → same_actor c b ≡ false
one_of c a b apart is = subst (λ (x : Actor). same_actor x b ≡ false) (sym (same_actor-true c a is)) apart

or_false : (x y : Bool) → y ≡ false → (x || y) ≡ true → x ≡ true
or_false true y none h = refl
or_false false y none h = absurd cc

-- whom an entry is made with is no user
abbrev NoUser : Settings → Option Actor → Type 0
NoUser g with = (a : Actor) → IsUser g a → is_with with a ≡ false

-- an entry that is made with no user has its maker alone
by_only : (g : Settings) (by : Actor) (with : Option Actor) (a b : Actor) → NoUser g with → IsUser g a → IsUser g b → same_actor a b ≡ false
    → (same_actor by a || is_with with a) ≡ true → (same_actor by b || is_with with b) ≡ false
by_only g by with a b none user other apart has =
    rw (one_of by a b apart (or_false (same_actor by a) (is_with with a) (none a user) has), none b other) refl

keeper_none : (g : Settings) (a : Actor) → IsUser g a → same_actor Keeper a ≡ false
keeper_none g (Caller n) user = refl
keeper_none g (Sched n) user = refl
keeper_none g _ not = absurd not

-- one of the clock has the caller that it is made with
with_only : (with : Option Actor) (a b : Actor) → same_actor a b ≡ false → is_with with a ≡ true → is_with with b ≡ false
with_only None a b apart has = refl
with_only (Some c) a b apart has = one_of c a b apart has

keeper_only : (g : Settings) (by : Actor) (with : Option Actor) (a b : Actor) → by ≡ Keeper → IsUser g a → IsUser g b → same_actor a b ≡ false
    → (same_actor by a || is_with with a) ≡ true → (same_actor by b || is_with with b) ≡ false
keeper_only g by with a b keeper user other apart has =
    let left : same_actor by a ≡ false = subst (λ (x : Actor). same_actor x a ≡ false) (sym keeper) (keeper_none g a user) in
    let right : same_actor by b ≡ false = subst (λ (x : Actor). same_actor x b ≡ false) (sym keeper) (keeper_none g b other) in
    let made : is_with with a ≡ true = rw left at has in
    rw right (with_only with a b apart made)

with_none : (g : Settings) (with : Option Actor) → with ≡ None → NoUser g with
with_none g with none a user = subst (λ (x : Option Actor). is_with x a ≡ false) (sym none) refl

wheel_none : (g : Settings) (w : ℕ) → NoUser g (Some (Wheel w))
wheel_none g w (Caller n) user = refl
wheel_none g w (Sched n) user = refl
wheel_none g w _ not = absurd not

inbox_none : (g : Settings) (w : ℕ) → NoUser g (Some (Inbox w))
inbox_none g w (Caller n) user = refl
inbox_none g w (Sched n) user = refl
inbox_none g w _ not = absurd not

mail_none : (g : Settings) (p : ℕ) → NoUser g (Some (MailOf p))
mail_none g p (Caller n) user = refl
mail_none g p (Sched n) user = refl
mail_none g p _ not = absurd not

with_wheel : (g : Settings) (with : Option Actor) (w : ℕ) → with ≡ Some (Wheel w) → NoUser g with
with_wheel g with w is = subst (NoUser g) (sym is) (wheel_none g w)

with_inbox : (g : Settings) (with : Option Actor) (w : ℕ) → with ≡ Some (Inbox w) → NoUser g with
with_inbox g with w is = subst (NoUser g) (sym is) (inbox_none g w)

with_mail : (g : Settings) (with : Option Actor) (p : ℕ) → with ≡ Some (MailOf p) → NoUser g with
with_mail g with p is = subst (NoUser g) (sym is) (mail_none g p)

with_mails : (g : Settings) (with : Option Actor) → IsWithMail g with → NoUser g with
with_mails g (Some (MailOf p)) is = mail_none g p
with_mails g _ not = absurd not

reader_only : (g : Settings) (by : Actor) (with : Option Actor) (a b : Actor) → IsReader g by with → IsUser g a → IsUser g b → same_actor a b ≡ false
    → (same_actor by a || is_with with a) ≡ true → (same_actor by b || is_with with b) ≡ false
reader_only g Keeper with a b is = keeper_only g Keeper with a b refl
reader_only g (Caller n) with a b is = by_only g (Caller n) with a b (with_none g with is.1)
reader_only g (Sched n) with a b is = by_only g (Sched n) with a b (with_none g with is.1)
reader_only g _ with a b not = absurd not.0

one_user : (g : Settings) (by : Actor) (with : Option Actor) (event : Event) (a b : Actor) → Keeps g by with event → IsUser g a → IsUser g b
    → same_actor a b ≡ false → (same_actor by a || is_with with a) ≡ true → (same_actor by b || is_with with b) ≡ false
one_user g by with (Tick reading act now) a b keeps = keeper_only g by with a b keeps.0
one_user g by with (Shift offset state) a b keeps = keeper_only g by with a b keeps.0
one_user g by with (Look now) a b keeps = by_only g by with a b (with_none g with keeps.1)
one_user g by with (Off offset state) a b keeps = reader_only g by with a b keeps
one_user g by with (Arm timer start) a b keeps = by_only g by with a b (with_wheel g with timer.wheel keeps.1)
one_user g by with (Probe wheel slot found) a b keeps = by_only g by with a b (with_wheel g with wheel keeps.1)
one_user g by with (Peek timer left) a b keeps = by_only g by with a b (with_none g with keeps.1)
one_user g by with (Cancel timer left) a b keeps = by_only g by with a b (with_none g with keeps.1)
one_user g by with (Expire timer) a b keeps = by_only g by with a b (with_wheel g with timer.wheel keeps.1)
one_user g by with (Orphan timer) a b keeps = by_only g by with a b (with_wheel g with timer.wheel keeps.1)
one_user g by with (Deliver timer) a b keeps = by_only g by with a b (with_mails g with keeps.1)
one_user g by with (Drop timer) a b keeps = by_only g by with a b (with_none g with keeps.1)
one_user g by with (Mark process exits was) a b keeps = by_only g by with a b (with_none g with keeps.1)
one_user g by with (Advanced wheel to) a b keeps = by_only g by with a b (with_wheel g with wheel keeps.1)
one_user g by with (Ask wheel request) a b keeps = by_only g by with a b (with_inbox g with wheel keeps.1)
one_user g by with (Pick wheel got) a b keeps = by_only g by with a b (with_inbox g with wheel keeps.1)
one_user g by with (Answer wheel left) a b keeps = by_only g by with a b (with_mails g with keeps.1)
one_user g by with (Take process got) a b keeps = by_only g by with a b (with_mail g with process keeps.1)
one_user g by with (Unwatch process monitor was) a b keeps = by_only g by with a b (with_mail g with process keeps.1)
one_user g by with (Watch process monitor offset) a b keeps = by_only g by with a b (with_mail g with process keeps.1)
one_user g by with (Tell process offset) a b keeps = by_only g by with a b (with_mail g with process keeps.1)

-- what one user made after a history is free of every other
pub free_of_other : (g : Settings) (s : State) (m : List Entry) (a b : Actor) → LegalFrom g s m → IsUser g a → IsUser g b → same_actor a b ≡ false
    → AllHave a m → IsFree m b
free_of_other g s [] a b legal user other apart have = refl
free_of_other g s (e ∷ m) a b legal user other apart have =
    rw (one_user g e.by e.with e.event a b legal.0.keeps user other apart have.0) (free_of_other g (next g s e) m a b legal.1 user other apart have.1)
