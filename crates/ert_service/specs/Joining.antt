-- How the seats of a service are joined, in order of number.

use Rattle.std.specs.Prelude.{◌≡◌, ℕ, ◌+◌, ◌<◌, true, List, ◌++◌, length, slice_index_or, All}
use Rattle.ert_defs.specs.{Actors.of, declared.entry.Actor.Actor, declared.entry.Entry.Entry}
use Rattle.ert_service.specs.Gathering.{IsSeen}
use Rattle.ert_table.specs.{Held.is_held, Views.Begins, declared.view.View.View}

-- so many seats in order of number
pub record AreNumbered {S : Type 0} (number : S → ℕ) (count : ℕ) (seats : List S) : Type 0 where
  pub counted : length seats ≡ count
  pub each : (i : ℕ) (d : S) → i < count → number (slice_index_or seats i d) ≡ i

-- a front begins a history, and has all entries of an actor that stand there
pub record HasOwn (a : Actor) (front h : List Entry) : Type 0 where
  pub begins : Begins front h
  pub own : of h a ≡ of front a

-- some seats were joined, and those that are left follow
pub record JoinsSeats {S : Type 0} (number : S → ℕ) (view : S → View) (sort : ℕ → Actor) (count : ℕ) (now : View) (joined left seats : List S) : Type 0 where
  pub all : joined ++ left ≡ seats
  pub sum : length joined + length left ≡ count
  pub seen : All (λ s. IsSeen (view s) now) joined
  pub each : (j : ℕ) (d : S) → j < length left → number (slice_index_or left j d) ≡ length joined + j
  pub held : (i : ℕ) → i < length joined → is_held now.actors (sort i) ≡ true
