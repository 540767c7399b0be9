-- What a call of some steps tells, where its answer alone doesn't tell its entries.

use Rattle.std.specs.Prelude.{◌≡◌, true, List, [], ◌∷◌, ◌++◌, Result, Ok, Err}
use Rattle.ert_defs.specs.{Actors.IsFree, Legal.Legal, States.{State, state}, declared.entry.Actor.Actor, declared.entry.Entry.Entry, declared.settings.Settings.Settings}
use Rattle.ert_table.specs.{Held.{is_held, IsOurs}, Takes.TakesPlace, declared.view.View.View}

-- a call is made: it takes place with entries that are allowed in the state of the front before
pub record IsMade (g : Settings) (v : View) (allows : State → List Entry → Type 0) (w : View) : Type 0 where
  pub entries : List Entry
  pub allowed : allows (state g v.front) entries
  pub call : TakesPlace g v entries w

-- a call takes no step, which is allowed in that state
pub record IsOmitted (g : Settings) (v : View) (allows : State → List Entry → Type 0) (w : View) : Type 0 where
  pub same : w ≡ v
  pub allowed : allows (state g v.front) []

-- a call is made where it is answered, and takes no step where it is refused
abbrev pub IsMadeIfOk : {A E : Type 0} → Settings → View → (Result A E → State → List Entry → Type 0) → Result A E → View → Type 0
IsMadeIfOk g v allows (Ok answer) w = IsMade g v (allows (Ok answer)) w
IsMadeIfOk g v allows (Err e) w = IsOmitted g v (allows (Err e)) w

-- each of these entries is of these actors alone
abbrev pub AreOnlyOf : List Actor → List Entry → Type 0
AreOnlyOf actors [] = Unit {0}
AreOnlyOf actors (e ∷ es) = IsOurs actors e.by e.with × AreOnlyOf actors es

-- one step took place with these entries, of which there may be several: they are last in the new front, one right behind
-- the other, none of the entries between the old front and them has an actor that the pass holds, and the new front is legal
pub record AppendsAll (g : Settings) (v : View) (es : List Entry) (w : View) : Type 0 where
  pub actors : w.actors ≡ v.actors
  pub legal : Legal g w.front
  pub between : List Entry
  pub grown : w.front ≡ (v.front ++ between) ++ es
  pub others : (a : Actor) → is_held v.actors a ≡ true → IsFree between a
  pub ours : AreOnlyOf v.actors es
