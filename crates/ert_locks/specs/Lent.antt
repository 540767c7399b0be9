-- A part that is lent to a seat for one call: what the call finds, and what it must leave.

use Rattle.std.specs.Prelude.{◌≡◌, ℕ, true, List, [], ◌∷◌}
use Rattle.std.specs.{Borrow.MutBor, Fn.Once}
use Rattle.ert_defs.specs.{Actors.has_actor, Legal.Legal, States.State, declared.entry.Actor.Actor, declared.entry.Entry.Entry, declared.settings.Settings.Settings}
use Rattle.ert_effects.specs.Ways.{Step}
use Rattle.ert_locks.specs.Kinds.{Kind}
use Rattle.ert_table.specs.{Calls.IsMade, Desks.{settings_of, view_of, front_of, actors_of, Belongs}, Held.is_held, Views.Begins, declared.desk.Desk.Desk, declared.desk.Pass.Pass}

-- each of these entries has the actor
abbrev pub AllHave : Actor → List Entry → Type 0
AllHave a [] = Unit {0}
AllHave a (e ∷ es) = (has_actor e a ≡ true) × AllHave a es

-- each entry of these steps has the actor of who makes them
abbrev pub HasActor : {A : Type 0} → (Settings → ℕ → ℕ → A → Step) → (ℕ → Actor) → Type 0
HasActor {A} allows actor = (g : Settings) (by n : ℕ) (answer : A) (s : State) (es : List Entry) → allows g by n answer s es → AllHave (actor by) es

-- the part of this number is lent to a seat that has this, and whose pass had this front: with a pass that has
-- the actors of both, for whose front both stand
pub record IsLent {X Y : Type 0} (d : Desk) (k : Kind X) (u : Kind Y) (n : ℕ) (f : List Entry) (x : X) (p : Pass) (own : Y) : Type 0 where
  pub number : k.number x ≡ n
  pub belongs : Belongs d p
  pub actors : actors_of p ≡ k.actor (k.number x) ∷ (u.actor (u.number own) ∷ [])
  pub has_part : is_held (actors_of p) (k.actor (k.number x)) ≡ true
  pub has_user : is_held (actors_of p) (u.actor (u.number own)) ≡ true
  pub since : Begins f (front_of p)
  pub legal : Legal (settings_of d) (front_of p)
  pub stands : k.stands (settings_of d) (front_of p) x
  pub own_stands : u.stands (settings_of d) (front_of p) own

-- a call leaves the part, the pass and what the seat has so, after entries that are allowed
pub record IsGivenBack {X Y : Type 0} (d : Desk) (k : Kind X) (u : Kind Y) (allows : Settings → ℕ → ℕ → Step) (x : X) (p : Pass) (own : Y) (y : X) (q : Pass) (left : Y) : Type 0 where
  pub number : k.number y ≡ k.number x
  pub own_number : u.number left ≡ u.number own
  pub belongs : Belongs d q
  pub stands : k.stands (settings_of d) (front_of q) y
  pub own_stands : u.stands (settings_of d) (front_of q) left
  pub call : IsMade (settings_of d) (view_of p) (allows (settings_of d) (u.number own) (k.number x)) (view_of q)

-- a call of the part of this number for a seat that has this, and whose pass had this front
module _ {F X Y A : Type 0} (c : Once F (MutBor X × (MutBor Pass × (MutBor Y × Unit {0}))) (A × (MutBor X × (MutBor Pass × (MutBor Y × Unit {0})))))
    (call : F) (d : Desk) (k : Kind X) (u : Kind Y) (n : ℕ) (has : Y) (f : List Entry) where
  -- it may be made of the part as it is lent
  abbrev pub MayCall : Type 0
  MayCall = (x : MutBor X) (p : MutBor Pass) (own : MutBor Y) → own.now ≡ has → IsLent d k u n f x.now p.now own.now → c.pre call (x, (p, (own, tt)))

  -- and leaves it, after entries that are allowed
  abbrev pub CallLeaves : (Settings → ℕ → ℕ → A → Step) → Type 0
  CallLeaves allows = (x : MutBor X) (p : MutBor Pass) (own : MutBor Y) (r : A) (y : MutBor X) (q : MutBor Pass) (left : MutBor Y) → own.now ≡ has
      → IsLent d k u n f x.now p.now own.now → c.post call (x, (p, (own, tt))) (r, (y, (q, (left, tt))))
      → IsGivenBack d k u (λ g by m. allows g by m r) x.now p.now own.now y.now q.now left.now

  -- it was made, with this answer, and left this and this front
  pub record IsCalled (r : A) (left : Y) (h : List Entry) : Type 0 where
    pub part : MutBor X
    pub pass : MutBor Pass
    pub own : MutBor Y
    pub new_part : MutBor X
    pub new_pass : MutBor Pass
    pub new_own : MutBor Y
    pub is_own : own.now ≡ has
    pub lent : IsLent d k u n f part.now pass.now own.now
    pub post : c.post call (part, (pass, (own, tt))) (r, (new_part, (new_pass, (new_own, tt))))
    pub is_left : left ≡ new_own.now
    pub front : h ≡ front_of new_pass.now
