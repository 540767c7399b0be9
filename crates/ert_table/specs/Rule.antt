-- The rule of the table: what is so of its words and of what all passes know, between any two steps.

use Rattle.std.specs.Prelude.{◌≡◌, ℕ, ◌<◌, true, List, ◌++◌, length, slice_index, Option, Some, None}
use mathlib.Core.Option.{some}
use lib.ListN.{get_elem?}
use Rattle.ert_defs.specs.{Actors.IsFree, Legal.Legal, States.state, Words.{word_of, word_count}, declared.entry.Actor.Actor, declared.entry.Entry.Entry, declared.settings.Settings.Settings}
use Rattle.ert_table.specs.{Held.is_held, Views.HasMet, declared.view.View.View}

-- settings, where there are any, are those of the desk
abbrev pub IsOf : Settings → Option Settings → Type 0
IsOf g None = Unit {0}
IsOf g (Some s) = s ≡ g

-- a front is legal by settings, where there are any
abbrev pub IsLegalBy : Option Settings → List Entry → Type 0
IsLegalBy None front = Unit {0}
IsLegalBy (Some g) front = Legal g front

-- a pass fits a history: its front begins the history, and none of the later entries has an actor that
-- it holds
pub record Fits (g : Settings) (h : List Entry) (v : View) : Type 0 where
  pub later : List Entry
  pub begins : h ≡ v.front ++ later
  pub own : (a : Actor) → is_held v.actors a ≡ true → IsFree later a
  pub named : IsOf g v.settings
  pub met : HasMet v.met v.front

-- there is one legal history, the words are those of its state, each pass fits it, and no two passes
-- hold one actor
pub record Holds (g : Settings) (words : List ℕ) (views : List View) : Type 0 where
  pub history : List Entry
  pub legal : Legal g history
  pub counted : length words ≡ word_count g
  pub shown : (i : ℕ) → i < word_count g → slice_index words i ≡ word_of g (state g history) i
  pub fits : (k : ℕ) (v : View) → get_elem? views k ≡ some v → Fits g history v
  pub apart : (j k : ℕ) (v w : View) (a : Actor) → get_elem? views j ≡ some v → get_elem? views k ≡ some w
      → is_held v.actors a ≡ true → is_held w.actors a ≡ true → j ≡ k
