-- What a pass knows, and how that is divided and put together.

use Rattle.std.specs.Prelude.{◌≡◌, true, cond, nat_le, List, [], ◌++◌, length, Option, Some, None}
use Rattle.ert_defs.specs.{Actors.of, declared.entry.Actor.Actor, declared.entry.Entry.Entry, declared.settings.Settings.Settings}
use Rattle.ert_table.specs.{Held.{is_held, everyone}, declared.view.Met.Met, declared.view.View.View}

-- a history begins with these entries
pub record Begins (front h : List Entry) : Type 0 where
  pub later : List Entry
  pub grown : h ≡ front ++ later

-- what the first pass knows
abbrev pub first_view : Settings → View
first_view g = record { front = []; actors = everyone g; settings = Some g; met = None }

-- what a pass knows that holds these actors after it was divided
abbrev pub holding : View → List Actor → View
holding v actors = record { front = v.front; actors = actors; settings = v.settings; met = None }

-- the longer of two fronts
abbrev pub longer : List Entry → List Entry → List Entry
longer f h = cond (nat_le (length h) (length f)) f h

-- two passes, as they met
abbrev pub meeting : View → View → Met
meeting v w = record { front = v.front; actors = v.actors; other_front = w.front; other_actors = w.actors }

-- what a pass knows that was joined of two
abbrev pub both : View → View → View
both v w = record {
  front = longer v.front w.front;
  actors = v.actors ++ w.actors;
  settings = v.settings;
  met = Some (meeting v w);
}

-- what is left of a pass that was joined to another
abbrev pub spent : View
spent = record { front = []; actors = []; settings = None; met = None }

-- what is so of two passes that met, and of the front of the pass that they became: each front begins it,
-- the entries in it of an actor that one of the two held are those that this one knew, and no actor was
-- held by both
pub record Joined (m : Met) (front : List Entry) : Type 0 where
  pub begins : Begins m.front front
  pub other_begins : Begins m.other_front front
  pub own : (a : Actor) → is_held m.actors a ≡ true → of front a ≡ of m.front a
  pub other_own : (a : Actor) → is_held m.other_actors a ≡ true → of front a ≡ of m.other_front a
  pub apart : (a : Actor) → is_held m.actors a ≡ true → is_held m.other_actors a ≡ true → ⊥

-- the same where two passes met
abbrev pub HasMet : Option Met → List Entry → Type 0
HasMet None front = Unit {0}
HasMet (Some m) front = Joined m front
