-- The actors that a pass holds.

use Rattle.std.specs.Prelude.{◌≡◌, ℕ, zero, suc, ◌<◌, Bool, true, cond, not, List, [], ◌∷◌, ◌++◌, filter, Option, Some, None}
use Rattle.std.specs.List.{list_any}
use Rattle.ert_defs.specs.{Actors.same_actor, declared.entry.Actor.Actor, declared.entry.Actor.TheVariants.{Keeper, Wheel, Inbox, Sched, MailOf, Caller}, declared.settings.Settings.Settings}

-- whether an actor is among these
abbrev pub is_held : List Actor → Actor → Bool
is_held actors a = list_any (λ b. same_actor b a) actors

-- the actors of an entry, by one and maybe with another, are among these
abbrev pub IsOurs : List Actor → Actor → Option Actor → Type 0
IsOurs actors by None = is_held actors by ≡ true
IsOurs actors by (Some a) = (is_held actors by ≡ true) × (is_held actors a ≡ true)

-- these actors but one
abbrev pub actors_but : List Actor → Actor → List Actor
actors_but actors a = filter (λ b. not (same_actor b a)) actors

-- some of these actors are kept and some given away, and none is both
pub record AreShared (actors kept given : List Actor) : Type 0 where
  pub less : (a : Actor) → is_held kept a ≡ true → is_held actors a ≡ true
  pub gave : (a : Actor) → is_held given a ≡ true → is_held actors a ≡ true
  pub apart : (a : Actor) → is_held kept a ≡ true → is_held given a ≡ true → ⊥

-- an actor in range
abbrev pub IsActor : Settings → Actor → Type 0
IsActor g Keeper = Unit {0}
IsActor g (Wheel w) = w < g.schedulers
IsActor g (Inbox w) = w < g.schedulers
IsActor g (Sched w) = w < g.schedulers
IsActor g (MailOf p) = p < g.processes
IsActor g (Caller n) = n < g.callers

-- every actor in range is among these
abbrev pub IsWhole : Settings → List Actor → Type 0
IsWhole g actors = (a : Actor) → IsActor g a → is_held actors a ≡ true

-- so many actors of one sort
abbrev pub upto : (ℕ → Actor) → ℕ → List Actor
upto sort zero = []
upto sort (suc n) = sort n ∷ upto sort n

-- all actors in range
abbrev pub everyone : Settings → List Actor
everyone g = Keeper ∷ (upto Wheel g.schedulers ++ (upto Inbox g.schedulers
    ++ (upto Sched g.schedulers ++ (upto MailOf g.processes ++ upto Caller g.callers))))

-- the one that was found, or this one where it is held
abbrev pub or_caller : Option ℕ → ℕ → Bool → Option ℕ
or_caller (Some m) n held = Some m
or_caller None n held = cond held (Some n) None

-- the caller of least number among these, below a number
abbrev pub least_caller : List Actor → ℕ → Option ℕ
least_caller actors zero = None
least_caller actors (suc n) = or_caller (least_caller actors n) n (is_held actors (Caller n))
