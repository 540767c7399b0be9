-- A pass that was taken to the pass of a part: what a call does with both stands whole in the history.

use Rattle.std.proofs.Common.{◌≡◌, ℕ, Bool, true, false, cond, ◌||◌, List, [], ◌∷◌, ◌++◌, filter, Some, refl, sym, ap, subst, ◌∙◌, append-nil, append_assoc}
use Rattle.atomic_table.specs.Seated.{TableId}
use Rattle.ert_effects.proofs.Growing.{filter_within}
use Rattle.ert_effects.specs.Ways.{Step, Grows, beside}
use Rattle.ert_defs.specs.{Actors.{has_actor, same_actor, of}, Entries.is_ours, Legal.Legal, States.{State, state}, declared.entry.Actor.Actor, declared.entry.Entry.Entry, declared.settings.Settings.Settings}
use Rattle.ert_locks.specs.{Kinds.{Kind, PartFits}, Lent.{AllHave, IsLent, IsGivenBack}, Names.{IsDesk, IsPassFor}, Passes.PartMeets}
use Rattle.ert_table.proofs.{Holders.{or_left, or_right, same_actor_self}, Parts.free_later}
use Rattle.ert_table.specs.{Calls.IsMade, Desks.{settings_of, front_of, view_of, actors_of, Belongs}, Held.{is_held, actors_but}, Views.Begins, declared.desk.Desk.Desk, declared.desk.Pass.Pass, declared.view.View.View}

all_own : (a : Actor) (es : List Entry) → AllHave a es → filter (is_ours (a ∷ [])) es ≡ es
all_own a [] have = refl
all_own a (e ∷ es) have = rw have.0 (ap (λ l. e ∷ l) (all_own a es have.1))

or_none : (b : Bool) → (b || false) ≡ b
or_none true = refl
or_none false = refl

-- the entries of one actor
ours_one : (a : Actor) (m : List Entry) → filter (is_ours (a ∷ [])) m ≡ of m a
ours_one a [] = refl
ours_one a (e ∷ m) = rw (or_none (has_actor e a)) (ap (λ l. cond (has_actor e a) (e ∷ l) l) (ours_one a m))

pub holds_self : (a : Actor) → is_held (a ∷ []) a ≡ true
holds_self a = or_left (same_actor a a) false (same_actor_self a)

-- the new pass holds both actors
pub has_part : {g : Settings} {part a : Actor} {k v j : View} → PartMeets g part a k v j → is_held j.actors part ≡ true
has_part {part = part} {a = a} meets = rw meets.actors (or_left (same_actor part part) (is_held (a ∷ []) part) (same_actor_self part))

pub has_user : {g : Settings} {part a : Actor} {k v j : View} → PartMeets g part a k v j → is_held j.actors a ≡ true
has_user {part = part} {a = a} meets = rw meets.actors (or_right (same_actor part a) (is_held (a ∷ []) a) (holds_self a))

-- the actor has no more entries in the new front than in its own
user_same : {g : Settings} {part a : Actor} {k v j : View} → PartMeets g part a k v j → of j.front a ≡ of v.front a
user_same {a = a} meets = meets.joined.other_own a (rw meets.user_alone (holds_self a))

-- a call of both stands whole in what the actor's front gains
lent : {g : Settings} {part a : Actor} {k v j w : View} (allows : Step) → PartMeets g part a k v j → (made : IsMade g j allows w) → AllHave a made.entries
    → Grows (beside g a (part ∷ []) allows) v.front w.front
lent {g} {part} {a} {k} {v} {j} {w} allows meets made have =
    let longer : Begins v.front j.front = meets.joined.other_begins in
    let during : List Entry = made.call.later in
    record {
      piece = longer.later ++ during;
      grown = made.call.grown ∙ (ap (λ l. l ++ during) longer.grown ∙ append_assoc v.front longer.later during);
      made = record {
        before = longer.later;
        during = during;
        entries = made.entries;
        parted = refl;
        away = ours_one a longer.later ∙ free_later a v.front j.front longer (user_same meets);
        whole = subst (λ actors. filter (is_ours actors) during ≡ made.entries) meets.actors made.call.ours;
        own = all_own a made.entries have;
        allowed = subst (λ h. allows (state g h) made.entries) longer.grown made.allowed;
      };
    }

-- so does a call at the desk by a part with a number, whose front the actor's pass then has
pub lent_out : {g t : Settings} {a : Actor} {m n : ℕ} {k v j w : View} {h : List Entry} (sort : ℕ → Actor) (allows : Settings → ℕ → Step) → t ≡ g → m ≡ n
    → PartMeets g (sort m) a k v j → IsMade t j (allows t m) w → ((s : State) (es : List Entry) → allows g m s es → AllHave a es) → h ≡ w.front
    → Grows (beside g a (sort n ∷ []) (allows g n)) v.front h
lent_out {g} {t} {a} {m} {n} {k} {v} {j} {w} {h} sort allows is at meets made have front =
    let made_g : IsMade g j (allows g m) w = subst (λ t. IsMade t j (allows t m) w) is made in
    subst (λ i. Grows (beside g a (sort i ∷ []) (allows g i)) v.front h) at
    (subst (λ h. Grows (beside g a (sort m ∷ []) (allows g m)) v.front h) (sym front)
    (lent (allows g m) meets made_g (have (state g j.front) made_g.entries made_g.allowed)))

-- a pass of the named desk with one actor
pub is_of : (table : TableId) (g : Settings) (a : Actor) (d : Desk) (p : Pass) → IsDesk table g d → Belongs d p → actors_of p ≡ a ∷ [] → IsPassFor table g a p
is_of table g a d p desk belongs actors = record {
  table_is = belongs.table ∙ desk.table_is;
  named = belongs.named ∙ ap (λ s. Some s) desk.settings_is;
  actors = actors;
}

-- the part as it is lent to a seat
pub lent_to : {X Y : Type 0} {g : Settings} {k : Kind X} {u : Kind Y} {n : ℕ} {d : Desk} {x : X} {own : Y} {j v : View} {p : Pass} → k.number x ≡ n
    → PartMeets g (k.actor (k.number x)) (u.actor (u.number own)) j v (view_of p) → Belongs d p → Legal (settings_of d) (front_of p)
    → k.stands (settings_of d) (front_of p) x → u.stands (settings_of d) (front_of p) own → IsLent d k u n v.front x p own
lent_to number meets belongs legal stands own_stands = record {
  number = number;
  belongs = belongs;
  actors = meets.actors;
  has_part = has_part meets;
  has_user = has_user meets;
  since = meets.joined.other_begins;
  legal = legal;
  stands = stands;
  own_stands = own_stands;
}

-- the pass fits the part again without the actor of the seat
pub fits_again : {X Y : Type 0} {table : TableId} {g : Settings} {k : Kind X} {u : Kind Y} {allows : Settings → ℕ → ℕ → Step} {n : ℕ} {d : Desk} {f : List Entry}
    {x y : X} {own left : Y} {p q r : Pass} → IsDesk table g d → IsLent d k u n f x p own → IsGivenBack d k u allows x p own y q left
    → same_actor (k.actor (k.number x)) (u.actor (u.number own)) ≡ false → Belongs d r → actors_of r ≡ actors_but (actors_of q) (u.actor (u.number own))
    → front_of r ≡ front_of q → PartFits table g k y r
fits_again {table = table} {g = g} {k = k} {u = u} {d = d} {y = y} {own = own} {q = q} {r = r} desk lent left other belongs rest front =
    let user = u.actor (u.number own) in
    let alone = rw (other, same_actor_self user) at (rest ∙ ap (λ l. actors_but l user) (left.call.call.actors ∙ lent.actors)) in
    record {
      sits = is_of table g (k.actor (k.number y)) d r desk belongs (alone ∙ ap (λ m. k.actor m ∷ []) (sym left.number));
      stands = subst (λ h. k.stands g h y) (sym front) (subst (λ t. k.stands t (front_of q) y) desk.settings_is left.stands);
    }

-- a call of an actor alone, which holds no part
pub steps_alone : (g : Settings) (a : Actor) (v : View) (allows : Step) (w : View) → v.actors ≡ a ∷ [] → IsMade g v allows w
    → Grows (beside g a [] allows) v.front w.front
steps_alone g a v allows w actors made =
    let during : List Entry = made.call.later in
    let ours : filter (is_ours (a ∷ [])) during ≡ made.entries = subst (λ l. filter (is_ours l) during ≡ made.entries) actors made.call.ours in
    record {
      piece = during;
      grown = made.call.grown;
      made = record {
        before = [];
        during = during;
        entries = made.entries;
        parted = refl;
        away = refl;
        whole = ours;
        own = ap (λ l. filter (is_ours (a ∷ [])) l) (sym ours) ∙ (filter_within (is_ours (a ∷ [])) (is_ours (a ∷ [])) (λ e is. is) during ∙ ours);
        allowed = subst (λ h. allows (state g h) made.entries) (sym (append-nil v.front)) made.allowed;
      };
    }
