-- What a list of actors holds, and which entries are free of it.

use Rattle.std.proofs.Common.{◌≡◌, ◌⊎◌, inl, inr, ⊎_elim, ℕ, zero, suc, ◌<◌, Bool, true, false, not, ◌||◌, ◌&&◌, List, [], ◌∷◌, ◌++◌, Option, Some, None, refl, sym, ap, subst, ◌∙◌, arith, eqb-true, eq-eqb}
use Rattle.std.proofs.lemmas.{List.Elements.filter-append, Bool.{and_parts, cases_eq}, List.Folds.list_any-append, Map.Views.any-filter_same}
use Rattle.ert_defs.specs.{Actors.{same_actor, is_with, has_actor, of, IsFree, IsFreeOf}, declared.entry.Actor.Actor, declared.entry.Actor.TheVariants.{Keeper, Wheel, Inbox, Sched, MailOf, Caller}, declared.entry.Entry.Entry}
use Rattle.ert_defs.specs.{declared.settings.Settings.Settings}
use Rattle.ert_defs.proofs.Runs.{free_first, free_rest}
use Rattle.ert_table.specs.Held.{is_held, IsOurs, actors_but, IsWhole, upto, everyone}

-- a test has an answer
pub tells : (b : Bool) → (b ≡ true) ⊎ (b ≡ false)
tells true = inl refl
tells false = inr refl

or_parts : (x y : Bool) → (x || y) ≡ true → (x ≡ true) ⊎ (y ≡ true)
or_parts true y h = inl refl
or_parts false y h = inr h

pub or_left : (x y : Bool) → x ≡ true → (x || y) ≡ true
or_left x y h = rw h refl

pub or_right : (x y : Bool) → y ≡ true → (x || y) ≡ true
or_right true y h = refl
or_right false y h = h

pub or_false : (x y : Bool) → (x || y) ≡ false → (x ≡ false) × (y ≡ false)
or_false true y h = absurd cc
or_false false y h = (refl, h)

-- actors that pass the test are one
pub same_actor-true : (a b : Actor) → same_actor a b ≡ true → a ≡ b
same_actor-true Keeper Keeper h = refl
same_actor-true (Wheel m) (Wheel n) h = ap Wheel (eqb-true m n h)
same_actor-true (Inbox m) (Inbox n) h = ap Inbox (eqb-true m n h)
same_actor-true (Sched m) (Sched n) h = ap Sched (eqb-true m n h)
same_actor-true (MailOf m) (MailOf n) h = ap MailOf (eqb-true m n h)
same_actor-true (Caller m) (Caller n) h = ap Caller (eqb-true m n h)
same_actor-true a b h = absurd cc

pub same_actor_self : (a : Actor) → same_actor a a ≡ true
same_actor_self Keeper = refl
same_actor_self (Wheel n) = eq-eqb n n refl
same_actor_self (Inbox n) = eq-eqb n n refl
same_actor_self (Sched n) = eq-eqb n n refl
same_actor_self (MailOf n) = eq-eqb n n refl
same_actor_self (Caller n) = eq-eqb n n refl

-- the actors of a list are those of its parts
pub held-append : (xs ys : List Actor) (a : Actor) → is_held (xs ++ ys) a ≡ true
    → (is_held xs a ≡ true) ⊎ (is_held ys a ≡ true)
held-append xs ys a h =
    let e = list_any-append (λ b. same_actor b a) xs ys in
    or_parts (is_held xs a) (is_held ys a) (sym e ∙ h)

pub held_first : (xs ys : List Actor) (a : Actor) → is_held xs a ≡ true → is_held (xs ++ ys) a ≡ true
held_first xs ys a h = list_any-append (λ b. same_actor b a) xs ys ∙ or_left (is_held xs a) (is_held ys a) h

pub held_then : (xs ys : List Actor) (a : Actor) → is_held ys a ≡ true → is_held (xs ++ ys) a ≡ true
held_then xs ys a h = list_any-append (λ b. same_actor b a) xs ys ∙ or_right (is_held xs a) (is_held ys a) h

-- a list of one actor has just that
pub held_one : (a b : Actor) → is_held (a ∷ []) b ≡ true → a ≡ b
held_one a b h = ⊎_elim (λ x. same_actor-true a b x) (λ x. absurd cc) (or_parts (same_actor a b) false h)

-- an entry's actors are held, where it is ours
pub held_of : (actors : List Actor) (e : Entry) (a : Actor) → IsOurs actors e.by e.with → has_actor e a ≡ true
    → is_held actors a ≡ true
held_of actors e a ours h =
    ⊎_elim
    (λ is. held_by actors e.by e.with a ours (same_actor-true e.by a is))
    (λ is. held_with actors e.by e.with a ours is)
    (or_parts (same_actor e.by a) (is_with e.with a) h)
  where
    held_by : (actors : List Actor) (by : Actor) (with : Option Actor) (a : Actor) → IsOurs actors by with → by ≡ a
        → is_held actors a ≡ true
    held_by actors by None a ours is = subst (λ b. is_held actors b ≡ true) is ours
    held_by actors by (Some c) a ours is = subst (λ b. is_held actors b ≡ true) is ours.0

    held_with : (actors : List Actor) (by : Actor) (with : Option Actor) (a : Actor) → IsOurs actors by with
        → is_with with a ≡ true → is_held actors a ≡ true
    held_with actors by None a ours is = absurd cc
    held_with actors by (Some c) a ours is = subst (λ b. is_held actors b ≡ true) (same_actor-true c a is) ours.1

-- the maker of an entry of ours is held
pub held_maker : (actors : List Actor) (by : Actor) (with : Option Actor) → IsOurs actors by with → is_held actors by ≡ true
held_maker actors by None h = h
held_maker actors by (Some a) h = h.0

-- entries that are free of all held actors are free of those of an entry of ours
pub free_of : (actors : List Actor) (m : List Entry) (by : Actor) (with : Option Actor) → IsOurs actors by with
    → ((a : Actor) → is_held actors a ≡ true → IsFree m a) → IsFreeOf m by with
free_of actors m by None ours free = free by ours
free_of actors m by (Some a) ours free = (free by ours.0, free a ours.1)

-- entries of two lists, both free of an actor
pub free-append : (m n : List Entry) (a : Actor) → IsFree m a → IsFree n a → IsFree (m ++ n) a
free-append m n a p q = filter-append (λ e. has_actor e a) m n ∙ (ap (λ x. x ++ of n a) p ∙ q)

pub free_one : (e : Entry) (a : Actor) → has_actor e a ≡ false → IsFree (e ∷ []) a
free_one e a h = rw h refl

-- the second of two lists is free where both together are
pub free_then : (m n : List Entry) (a : Actor) → IsFree (m ++ n) a → IsFree n a
free_then [] n a h = h
free_then (e ∷ m) n a h = free_then m n a (free_rest a e (m ++ n) h)

pub free_front : (m n : List Entry) (a : Actor) → IsFree (m ++ n) a → IsFree m a
free_front [] n a h = refl
free_front (e ∷ m) n a h =
    let none : has_actor e a ≡ false = free_first a e (m ++ n) h in
    rw none (free_front m n a (free_rest a e (m ++ n) h))

-- without an actor a list holds the others that it held
pub held_but : (actors : List Actor) (a b : Actor)
    → is_held (actors_but actors a) b ≡ (not (same_actor b a) && is_held actors b)
held_but actors a b =
    any-filter_same (λ c. same_actor c b) (λ c. not (same_actor c a)) (not (same_actor b a))
    (λ c is. ap (λ x. not (same_actor x a)) (same_actor-true c b is)) actors

pub held_but_parts : (actors : List Actor) (a b : Actor) → is_held (actors_but actors a) b ≡ true
    → (same_actor b a ≡ false) × (is_held actors b ≡ true)
held_but_parts actors a b h =
    let parts = and_parts (not (same_actor b a)) (is_held actors b) (sym (held_but actors a b) ∙ h) in
    (not_true (same_actor b a) parts.0, parts.1)
  where
    not_true : (x : Bool) → not x ≡ true → x ≡ false
    not_true true h = absurd cc
    not_true false h = refl

pub held_but_other : (actors : List Actor) (a b : Actor) → same_actor b a ≡ false → is_held actors b ≡ true
    → is_held (actors_but actors a) b ≡ true
held_but_other actors a b not_a h = held_but actors a b ∙ rw (not_a, h) refl

-- each actor in range is among all of them
upto_held : (sort : ℕ → Actor) → ((m n : ℕ) → m ≡ n → same_actor (sort m) (sort n) ≡ true) → (count n : ℕ) → n < count
    → is_held (upto sort count) (sort n) ≡ true
upto_held sort same zero n lt = absurd (omega arith)
upto_held sort same (suc count) n lt =
    ⊎_elim (λ is. or_left (same_actor (sort count) (sort n)) (is_held (upto sort count) (sort n)) (same count n (sym is)))
    (λ not. or_right (same_actor (sort count) (sort n)) (is_held (upto sort count) (sort n)) (upto_held sort same count n (omega arith)))
    (cases_eq n count)

pub whole_everyone : (g : Settings) → IsWhole g (everyone g)
whole_everyone g Keeper h = refl
whole_everyone g (Wheel n) h = held_first (upto Wheel g.schedulers) _ (Wheel n) (upto_held Wheel (λ m n. eq-eqb m n) g.schedulers n h)
whole_everyone g (Inbox n) h =
    held_then (upto Wheel g.schedulers) _ (Inbox n) (held_first (upto Inbox g.schedulers) _ (Inbox n)
    (upto_held Inbox (λ m n. eq-eqb m n) g.schedulers n h))
whole_everyone g (Sched n) h =
    held_then (upto Wheel g.schedulers) _ (Sched n) (held_then (upto Inbox g.schedulers) _ (Sched n)
    (held_first (upto Sched g.schedulers) _ (Sched n) (upto_held Sched (λ m n. eq-eqb m n) g.schedulers n h)))
whole_everyone g (MailOf n) h =
    held_then (upto Wheel g.schedulers) _ (MailOf n) (held_then (upto Inbox g.schedulers) _ (MailOf n)
    (held_then (upto Sched g.schedulers) _ (MailOf n) (held_first (upto MailOf g.processes) _ (MailOf n)
    (upto_held MailOf (λ m n. eq-eqb m n) g.processes n h))))
whole_everyone g (Caller n) h =
    held_then (upto Wheel g.schedulers) _ (Caller n) (held_then (upto Inbox g.schedulers) _ (Caller n)
    (held_then (upto Sched g.schedulers) _ (Caller n) (held_then (upto MailOf g.processes) _ (Caller n)
    (upto_held Caller (λ m n. eq-eqb m n) g.callers n h))))
