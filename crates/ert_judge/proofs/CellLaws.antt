-- The laws of the parts that are lists of cells: each goes on by an event as the model's part does, and
-- stays as long as it was.

use Rattle.std.proofs.Common.{◌≡◌, ◌∙◌, refl, sym, ap, inl, inr, ℕ, ℤ, ◌<◌, cond, nat_eq, List, [], length, get_or, set, Option, Some, eq-eqb, ne_eqb}
use Rattle.std.proofs.lemmas.{Bool.cases_eq, List.{length-set, get_or-set_same, get_or-set_other}}
use Rattle.ert_defs.proofs.ExpiredTimers.{cond_same}
use Rattle.ert_defs.specs.{Actors.{same_actor, is_with, IsUser}, Mails.{SchedState, idle_sched, inbox_after, sched_after}, States.look_after, Timers.Row, declared.entry.Actor.Actor, declared.entry.Actor.TheVariants.{Keeper, Wheel, Inbox}}
use Rattle.ert_defs.specs.{declared.entry.Actor.TheVariants.{Sched, MailOf, Caller}, declared.entry.Event.Event, declared.entry.Event.TheVariants.Look, declared.mail.Request.Request, declared.settings.Settings.Settings}
use Rattle.ert_judge.specs.Parts.{LastLooks, look_of, looks_after, inbox_at, inboxes_after, sched_at, scheds_after}

-- a cell of a list of which one cell was set
pub cell_set : {X : Type 0} (xs : List X) (i j : ℕ) (v d : X) → i < length xs
    → get_or (set xs i v) j d ≡ cond (nat_eq i j) v (get_or xs j d)
cell_set xs i j v d low = elim (cases_eq i j) [
  | inl is ↦ rw (eq-eqb i j is) (ap (λ k. get_or (set xs i v) k d) (sym is) ∙ get_or-set_same xs i v d low)
  | inr not ↦ rw (ne_eqb i j not) (get_or-set_other xs i j v d (λ is. not (sym is)))
]

-- one of which one cell has gone on
pub cell_after : {X : Type 0} (f : X → X) (xs : List X) (i j : ℕ) (d : X) → i < length xs
    → get_or (set xs i (f (get_or xs i d))) j d ≡ cond (nat_eq i j) (f (get_or xs j d)) (get_or xs j d)
cell_after f xs i j d low = cell_set xs i j (f (get_or xs i d)) d low ∙ elim (cases_eq i j) [
  | inl is ↦ ap (λ k. cond (nat_eq i j) (f (get_or xs k d)) (get_or xs j d)) is
  | inr not ↦ rw (ne_eqb i j not) refl
]

-- the inboxes go on as those of the model
pub inboxes_follow : (with : Option Actor) (event : Event) (xs : List (List Request))
    → ((v : ℕ) → with ≡ Some (Inbox v) → v < length xs) → (w : ℕ)
    → inbox_at (inboxes_after with event xs) w
    ≡ cond (is_with with (Inbox w)) (inbox_after (inbox_at xs w) event) (inbox_at xs w)
inboxes_follow (Some (Inbox v)) event xs below w =
    cell_after (λ requests. inbox_after requests event) xs v w [] (below v refl)
inboxes_follow _ event xs below w = refl

-- and stay as many
pub length-inboxes_after : (with : Option Actor) (event : Event) (xs : List (List Request))
    → length (inboxes_after with event xs) ≡ length xs
length-inboxes_after (Some (Inbox v)) event xs = length-set xs v _
length-inboxes_after _ event xs = refl

-- the schedulers go on as those of the model
pub scheds_follow : (rows : ℕ → List Row) (by : Actor) (event : Event) (xs : List SchedState)
    → ((w : ℕ) → by ≡ Sched w → w < length xs) → (v : ℕ)
    → sched_at (scheds_after rows by event xs) v
    ≡ cond (same_actor by (Sched v)) (sched_after rows (sched_at xs v) event) (sched_at xs v)
scheds_follow rows (Sched w) event xs below v =
    cell_after (λ s. sched_after rows s event) xs w v idle_sched (below w refl)
scheds_follow rows _ event xs below v = refl

-- and stay as many
pub length-scheds_after : (rows : ℕ → List Row) (by : Actor) (event : Event) (xs : List SchedState)
    → length (scheds_after rows by event xs) ≡ length xs
length-scheds_after rows (Sched w) event xs = length-set xs w _
length-scheds_after rows _ event xs = refl

looks_follow_one : (g : Settings) (by : Actor) (now : ℤ) (l : LastLooks) → IsUser g by
    → length l.callers ≡ g.callers → length l.schedulers ≡ g.schedulers → (a : Actor)
    → look_of (looks_after by (Look now) l) a ≡ cond (same_actor by a) now (look_of l a)
looks_follow_one g (Caller n) now l user callers schedulers (Caller m) =
    cell_set l.callers n m now l.start (rw callers user)
looks_follow_one g (Caller n) now l user callers schedulers _ = refl
looks_follow_one g (Sched n) now l user callers schedulers (Sched m) =
    cell_set l.schedulers n m now l.start (rw schedulers user)
looks_follow_one g (Sched n) now l user callers schedulers _ = refl
looks_follow_one g _ now l user callers schedulers a = absurd user

-- the last looks go on as those of the model
pub looks_follow : (g : Settings) (by : Actor) (event : Event) (l : LastLooks)
    → ((now : ℤ) → event ≡ Look now → IsUser g by)
    → length l.callers ≡ g.callers → length l.schedulers ≡ g.schedulers → (a : Actor)
    → look_of (looks_after by event l) a ≡ cond (same_actor by a) (look_after (look_of l a) event) (look_of l a)
looks_follow g by (Look now) l user callers schedulers a =
    looks_follow_one g by now l (user now refl) callers schedulers a
looks_follow g by _ l user callers schedulers a = sym (cond_same (same_actor by a) (look_of l a))

-- and stay as many, of callers
pub length-callers_after : (by : Actor) (event : Event) (l : LastLooks)
    → length (looks_after by event l).callers ≡ length l.callers
length-callers_after (Caller n) (Look now) l = length-set l.callers n now
length-callers_after (Keeper) (Look now) l = refl
length-callers_after (Wheel n) (Look now) l = refl
length-callers_after (Inbox n) (Look now) l = refl
length-callers_after (Sched n) (Look now) l = refl
length-callers_after (MailOf n) (Look now) l = refl
length-callers_after by _ l = refl

-- and of schedulers
pub length-schedulers_after : (by : Actor) (event : Event) (l : LastLooks)
    → length (looks_after by event l).schedulers ≡ length l.schedulers
length-schedulers_after (Sched n) (Look now) l = length-set l.schedulers n now
length-schedulers_after (Keeper) (Look now) l = refl
length-schedulers_after (Wheel n) (Look now) l = refl
length-schedulers_after (Inbox n) (Look now) l = refl
length-schedulers_after (MailOf n) (Look now) l = refl
length-schedulers_after (Caller n) (Look now) l = refl
length-schedulers_after by _ l = refl
