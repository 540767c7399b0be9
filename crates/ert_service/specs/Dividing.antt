-- A pass that is divided: each actor of a kind goes to a pass of its own.

use Rattle.std.specs.Prelude.{◌≡◌, ℕ, ◌+◌, ◌<◌, ◌≤◌, true, false, List, [], length, slice_index_or, Some}
use Rattle.atomic_table.specs.Seated.{TableId}
use Rattle.ert_defs.specs.{Actors.same_actor, declared.entry.Actor.Actor, declared.entry.Entry.Entry, declared.settings.Settings.Settings}
use Rattle.ert_locks.specs.Kinds.{Kind}
use Rattle.ert_world.specs.Parts.{AreOrdered}
use Rattle.ert_table.specs.{Held.is_held, declared.desk.Pass.Pass}

-- actors of all other sorts are held still
pub record KeepsBut (sort : ℕ → Actor) (old new : List Actor) : Type 0 where
  pub others : (a : Actor) → ((n : ℕ) → same_actor a (sort n) ≡ false) → is_held old a ≡ true → is_held new a ≡ true

-- so many seats in order of number, and each knows this
pub record AreSeated {S : Type 0} (number : S → ℕ) (front : S → List Entry) (count : ℕ) (h : List Entry) (seats : List S) : Type 0 where
  pub counted : length seats ≡ count
  pub each : (i : ℕ) (d : S) → i < count → (number (slice_index_or seats i d) ≡ i) × (front (slice_index_or seats i d) ≡ h)

-- these are the first parts of a kind, so many of them, in order of number
abbrev pub AreFirst : {X : Type 0} → Kind X → Settings → ℕ → List Entry → List X → Type 0
AreFirst k g count h xs = AreOrdered k.number (k.stands g h) k.actor [] count xs

-- so many actors of a kind have been taken out of a pass; the parts that are left are those that follow
pub record Divides {X : Type 0} (k : Kind X) (g : Settings) (h : List Entry) (first now : List Actor) (done : ℕ) (left : List X) : Type 0 where
  pub sum : done + length left ≡ k.count g
  pub each : (j : ℕ) (d : X) → j < length left → (k.number (slice_index_or left j d) ≡ done + j) × k.stands g h (slice_index_or left j d)
  pub held : (i : ℕ) → done ≤ i → i < k.count g → is_held now (k.actor i) ≡ true
  pub kept : KeepsBut k.actor first now

-- a pass of the named desk, with whatever actors
pub record IsPassOf (table : TableId) (g : Settings) (p : Pass) : Type 0 where
  pub table_is : p.seat.table_id ≡ table
  pub named : p.seat.me.0.settings ≡ Some g
