-- Chains of slots, for whoever knows where each slot belongs.

use Rattle.std.specs.Prelude.{◌≡◌, ◌≢◌, ◌⊎◌, ℕ, ◌+◌, ◌-◌, ◌<◌, ◌≤◌, ◌^◌, List, Option, Some, None, nat_lt, nat_eq, length, if◌then◌else◌, IfSome}
use Rattle.std.specs.Option.{is_some}
use Rattle.ert_wheel.specs.{Chained.{Shape, Chained, Alone}, Links.{next_at, prev_at, seen_links}, declared.links.Link.Link}

-- how many slots and homes there are, how many slots are written, and the links of all: of each slot, and then of each
-- home's head
pub record Rings : Type 0 where
  pub slots : ℕ
  pub homes : ℕ
  pub written : ℕ
  pub links : List Link

-- rings by their parts
abbrev pub rings : ℕ → ℕ → ℕ → List Link → Rings
rings slots homes written links = record { slots = slots; homes = homes; written = written; links = links }

-- and as their links are stored: those of the heads, and then those of the slots that are written
abbrev pub seen_rings : ℕ → ℕ → List Link → Rings
seen_rings slots homes stored = rings slots homes (length stored - homes) (seen_links slots homes stored)

-- the head of a home is on both sides of a slot: no other is in its chain
pub record IsOnlyOf (r : Rings) (slot home : ℕ) : Type 0 where
  pub next : next_at r.links slot ≡ r.slots + home
  pub prev : prev_at r.links slot ≡ r.slots + home

-- no head is on both sides of a slot: others are in its chain, or it is in none
abbrev pub HasOthers : Rings → ℕ → Type 0
HasOthers r slot = (next_at r.links slot ≢ prev_at r.links slot) ⊎ (next_at r.links slot < r.slots)

-- where a slot belongs: the home whose chain it is in, and its rank there
pub record Place : Type 0 where
  pub home : ℕ
  pub order : ℕ

-- the home of a place, and 0 of none
abbrev pub home_of : Option Place → ℕ
home_of None = 0
home_of (Some place) = place.home

-- the rank of a place, and 0 of none
abbrev pub order_of : Option Place → ℕ
order_of None = 0
order_of (Some place) = place.order

-- what the slots have by their places, and the heads by their numbers
abbrev pub by_node : {A : Type 0} → ℕ → (Option Place → A) → (ℕ → A) → (ℕ → Option Place) → ℕ → A
by_node slots of_place of_head places x = if nat_lt x slots then of_place (places x) else of_head x

-- the chains of an assignment of places
abbrev pub shape : ℕ → ℕ → (ℕ → Option Place) → Shape
shape slots homes places = record {
  slots = slots;
  on = by_node slots is_some (λ x. nat_lt x (slots + homes)) places;
  home = by_node slots home_of (λ x. x - slots) places;
  top = by_node slots order_of (λ _. 2 ^ 64) places;
  low = by_node slots (λ p. order_of p + 1) (λ _. 0) places;
}

-- the chain of each home has just the slots whose place it is, from the greatest order to the least, and a slot
-- without a place is in none
pub record AreChains (r : Rings) (places : ℕ → Option Place) : Type 0 where
  pub orders : (j : ℕ) (p : Place) → places j ≡ Some p → p.order < 2 ^ 64
  pub once : (i j : ℕ) (p q : Place) → places i ≡ Some p → places j ≡ Some q → p.order ≡ q.order → i ≡ j
  pub chained : Chained (shape r.slots r.homes places) (next_at r.links) (prev_at r.links)
  pub alone : (j : ℕ) → j < r.slots → places j ≡ None → Alone (next_at r.links) (prev_at r.links) j

-- the places, with another at one slot
abbrev pub with_place : (ℕ → Option Place) → ℕ → Option Place → ℕ → Option Place
with_place places slot place j = if nat_eq j slot then place else places j

-- some assignment fits, and in it the slot has no place
pub record MayPut (r : Rings) (slot home : ℕ) : Type 0 where
  pub places : ℕ → Option Place
  pub are : AreChains r places
  pub low : slot < r.slots
  pub in_range : home < r.homes
  pub out : places slot ≡ None

-- in every assignment that fits, the slot gets this home, with any order above all others
abbrev pub Puts : Rings → Rings → ℕ → ℕ → Type 0
Puts old new slot home =
    (places : ℕ → Option Place) (order : ℕ) → AreChains old places → places slot ≡ None → order < 2 ^ 64
    → ((j : ℕ) (p : Place) → places j ≡ Some p → p.order < order)
    → AreChains new (with_place places slot (Some (record { home = home; order = order })))

-- in every assignment that fits, the slot gets this home, with any order that no other slot has and that is
-- above all others of the home
abbrev pub PutsInHome : Rings → Rings → ℕ → ℕ → Type 0
PutsInHome old new slot home =
    (places : ℕ → Option Place) (order : ℕ) → AreChains old places → places slot ≡ None → order < 2 ^ 64
    → ((j : ℕ) (p : Place) → places j ≡ Some p → p.order ≢ order)
    → ((j : ℕ) (p : Place) → places j ≡ Some p → p.home ≡ home → p.order < order)
    → AreChains new (with_place places slot (Some (record { home = home; order = order })))

-- in every assignment that fits, the slot gets this home, with any order that no other slot has and that is
-- below all others of the home
abbrev pub PutsOldestInHome : Rings → Rings → ℕ → ℕ → Type 0
PutsOldestInHome old new slot home =
    (places : ℕ → Option Place) (order : ℕ) → AreChains old places → places slot ≡ None → order < 2 ^ 64
    → ((j : ℕ) (p : Place) → places j ≡ Some p → p.order ≢ order)
    → ((j : ℕ) (p : Place) → places j ≡ Some p → p.home ≡ home → order < p.order)
    → AreChains new (with_place places slot (Some (record { home = home; order = order })))

-- in every assignment that fits, the slot gets this home, with any order above all, whether it had a place or not
abbrev pub MovesSlot : Rings → Rings → ℕ → ℕ → Type 0
MovesSlot old new slot home =
    (places : ℕ → Option Place) (order : ℕ) → AreChains old places → order < 2 ^ 64
    → ((j : ℕ) (p : Place) → places j ≡ Some p → p.order < order)
    → AreChains new (with_place places slot (Some (record { home = home; order = order })))

-- some assignment fits
pub record MayTake (r : Rings) (slot : ℕ) : Type 0 where
  pub places : ℕ → Option Place
  pub are : AreChains r places
  pub low : slot < r.slots

-- in every assignment that fits, the slot gives its place up, where it has one
abbrev pub GivesUpPlace : Rings → Rings → ℕ → Type 0
GivesUpPlace old new slot =
    (places : ℕ → Option Place) → AreChains old places → AreChains new (with_place places slot None)

-- a slot stands in the chain of a home
pub record StandsIn (places : ℕ → Option Place) (home slot : ℕ) : Type 0 where
  pub place : Place
  pub has : places slot ≡ Some place
  pub at_home : place.home ≡ home

-- the slot of a node, and none of a head
abbrev pub node_slot : ℕ → ℕ → Option ℕ
node_slot slots node = if nat_lt node slots then Some node else None

-- one above the order of a slot, and 0 of none
abbrev pub bound_of : (ℕ → Option Place) → Option ℕ → ℕ
bound_of places None = 0
bound_of places (Some slot) = order_of (places slot) + 1

-- the slot of a home with the greatest order below a bound, or none
pub record Finds (r : Rings) (places : ℕ → Option Place) (home bound : ℕ) (found : Option ℕ) : Type 0 where
  pub stands : IfSome found (λ slot. (slot < r.slots) × StandsIn places home slot)
  pub down : bound_of places found ≤ bound
  pub greatest : (j : ℕ) (p : Place) → j < r.slots → places j ≡ Some p → p.home ≡ home → p.order < bound
      → p.order < bound_of places found

-- the slot of a home with the least order from a bound on, or none
pub record FindsOldest (r : Rings) (places : ℕ → Option Place) (home bound : ℕ) (found : Option ℕ) : Type 0 where
  pub stands : IfSome found (λ slot. (slot < r.slots) × StandsIn places home slot)
  pub up : IfSome found (λ slot. bound ≤ order_of (places slot))
  pub least : IfSome found (λ slot. (j : ℕ) (p : Place) → j < r.slots → places j ≡ Some p → p.home ≡ home
      → bound ≤ p.order → order_of (places slot) ≤ p.order)
  pub none : found ≡ None → (j : ℕ) (p : Place) → j < r.slots → places j ≡ Some p → p.home ≡ home
      → p.order < bound
