-- What a step and a call tell: how a pass's front grows.

use Rattle.std.specs.Prelude.{◌≡◌, true, List, [], ◌∷◌, ◌++◌, filter}
use Rattle.ert_defs.specs.{Actors.IsFree, Legal.{Keeps, Known, Legal}, States.state, declared.entry.Actor.Actor, declared.entry.Entry.Entry, declared.settings.Settings.Settings, Entries.is_ours}
use Rattle.ert_table.specs.{Held.{is_held, IsOurs}, declared.view.View.View}

-- a pass may step with an entry: it holds the entry's actors, the entry is in range, and its front shows
-- what the maker of the entry must know
pub record MayStep (g : Settings) (v : View) (e : Entry) : Type 0 where
  pub ours : IsOurs v.actors e.by e.with
  pub keeps : Keeps g e.by e.with e.event
  pub known : Known g (state g v.front) e.by e.with e.event

-- one step took place with an entry: it is last in the new front, none of the entries between the old
-- front and it has an actor that the pass holds, and the new front is legal
pub record Appends (g : Settings) (v : View) (e : Entry) (w : View) : Type 0 where
  pub actors : w.actors ≡ v.actors
  pub legal : Legal g w.front
  pub between : List Entry
  pub grown : w.front ≡ (v.front ++ between) ++ e ∷ []
  pub others : (a : Actor) → is_held v.actors a ≡ true → IsFree between a
  pub ours : IsOurs v.actors e.by e.with

-- a call took place with these entries, one after the other: they are all that its front has gained of
-- the actors that the pass holds
pub record TakesPlace (g : Settings) (v : View) (es : List Entry) (w : View) : Type 0 where
  pub actors : w.actors ≡ v.actors
  pub legal : Legal g w.front
  pub later : List Entry
  pub grown : w.front ≡ v.front ++ later
  pub ours : filter (is_ours v.actors) later ≡ es
