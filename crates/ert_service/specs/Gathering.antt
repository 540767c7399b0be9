-- How a service is closed: passes that are joined one after the other, and parts that are put in order.

use Rattle.std.specs.Prelude.{◌≡◌, ℕ, suc, ◌<◌, true, List, [], ◌∷◌, length, slice_index_or, Option, Some, None}
use Rattle.ert_defs.specs.{Actors.of, declared.entry.Actor.Actor, declared.settings.Settings.Settings}
use Rattle.ert_locks.specs.Kinds.{Kind}
use Rattle.ert_service.specs.Dividing.{AreFirst}
use Rattle.ert_table.specs.{Held.is_held, Views.Begins, declared.view.View.View}

-- a pass is seen in another: its front begins that one's, which holds its actors, and has their entries alone
pub record IsSeen (v w : View) : Type 0 where
  pub begins : Begins v.front w.front
  pub held : (a : Actor) → is_held v.actors a ≡ true → is_held w.actors a ≡ true
  pub own : (a : Actor) → is_held v.actors a ≡ true → of w.front a ≡ of v.front a

-- the parts that stand in places, each at its number
pub record Gathered {X : Type 0} (k : Kind X) (g : Settings) (v : View) (places : List (Option X)) : Type 0 where
  pub counted : length places ≡ k.count g
  pub each : (i : ℕ) (x : X) → slice_index_or places i None ≡ Some x → (k.number x ≡ i) × k.stands g v.front x × (is_held v.actors (k.actor i) ≡ true)

-- how many places are full
abbrev pub filled : {X : Type 0} → List (Option X) → ℕ
filled [] = 0
filled (None ∷ places) = filled places
filled (Some x ∷ places) = suc (filled places)

-- the parts in the places
abbrev pub somes : {X : Type 0} → List (Option X) → List X
somes [] = []
somes (None ∷ places) = somes places
somes (Some x ∷ places) = x ∷ somes places

-- the first parts of a kind, so many of them, stand in order, and their actors are held
pub record AreIn {X : Type 0} (k : Kind X) (g : Settings) (count : ℕ) (v : View) (xs : List X) : Type 0 where
  pub ordered : AreFirst k g count v.front xs
  pub held : (i : ℕ) → i < count → is_held v.actors (k.actor i) ≡ true

-- so many places with nothing in them
pub record AreEmpty {X : Type 0} (count : ℕ) (places : List (Option X)) : Type 0 where
  pub counted : length places ≡ count
  pub none : filled places ≡ 0
  pub each : (i : ℕ) → slice_index_or places i None ≡ None
