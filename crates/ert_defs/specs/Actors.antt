-- Actors, and the entries that an actor has made.

use Rattle.std.specs.Prelude.{◌≡◌, ◌<◌, Bool, true, false, nat_eq, ◌||◌, List, [], Option, Some, None, filter}
use Rattle.ert_defs.specs.declared.{settings.Settings.Settings, entry.Actor.Actor, entry.Actor.TheVariants.{Keeper, Wheel, Inbox, Sched, MailOf, Caller}, entry.Entry.Entry}

-- whether two actors are one
abbrev pub same_actor : Actor → Actor → Bool
same_actor Keeper Keeper = true
same_actor (Wheel m) (Wheel n) = nat_eq m n
same_actor (Inbox m) (Inbox n) = nat_eq m n
same_actor (Sched m) (Sched n) = nat_eq m n
same_actor (MailOf m) (MailOf n) = nat_eq m n
same_actor (Caller m) (Caller n) = nat_eq m n
same_actor _ _ = false

-- whether an entry is made with this actor
abbrev pub is_with : Option Actor → Actor → Bool
is_with None a = false
is_with (Some b) a = same_actor b a

-- whether an entry has this actor: it is made by it or with it
abbrev pub has_actor : Entry → Actor → Bool
has_actor e a = same_actor e.by a || is_with e.with a

-- the entries of an actor, in order
abbrev pub of : List Entry → Actor → List Entry
of h a = filter (λ e. has_actor e a) h

-- none of these entries has the actor
abbrev pub IsFree : List Entry → Actor → Type 0
IsFree m a = of m a ≡ []

-- none of these entries has an actor of an entry by this actor with that one
abbrev pub IsFreeOf : List Entry → Actor → Option Actor → Type 0
IsFreeOf m by None = IsFree m by
IsFreeOf m by (Some a) = IsFree m by × IsFree m a

-- a caller in range
abbrev pub IsCaller : Settings → Actor → Type 0
IsCaller g (Caller n) = n < g.callers
IsCaller g _ = ⊥

-- a caller or a scheduler in range
abbrev pub IsUser : Settings → Actor → Type 0
IsUser g (Caller n) = n < g.callers
IsUser g (Sched n) = n < g.schedulers
IsUser g _ = ⊥

-- who makes entries: the clock, the callers and the schedulers of the settings
abbrev pub IsMaker : Settings → Actor → Type 0
IsMaker g Keeper = Unit {0}
IsMaker g (Caller n) = n < g.callers
IsMaker g (Sched n) = n < g.schedulers
IsMaker g _ = ⊥
