-- A row of a process is looked for in its chain, and slots without a row leave the chain. A slot joins the chain of the
-- process of its timer, or stays in it.

use Rattle.std.specs.Prelude.{◌≡◌, ◌≢◌, ◌⊎◌, ℕ, ◌<◌, ◌≤◌, ◌^◌, Bool, true, List, length, Option, Some, None}
use Rattle.ert_wheel.specs.{Rings.{Rings, Place, AreChains, StandsIn, with_place}, Rows.{key_in, key_of}, declared.row.Key.Key, declared.row.Row.Row}

-- the chains are of the slots of a wheel, and some places fit
pub record MayThin (owners : Rings) (keys : List (Option Key)) : Type 0 where
  pub wide : length keys ≡ owners.slots
  pub places : ℕ → Option Place
  pub are : AreChains owners places

-- some slots that have no row have left their chains, and no others have
pub record Thinned (owners : Rings) (keys : List (Option Key)) (places left : ℕ → Option Place) : Type 0 where
  pub are : AreChains owners left
  pub each : (k : ℕ) → (left k ≡ places k) ⊎ ((left k ≡ None) × (key_in keys k ≡ None))

-- a slot may join the chain of a process: the places have orders below a bound, and where the slot stays it stands there
pub record MayJoin (places : ℕ → Option Place) (slot process bound : ℕ) (stays : Bool) : Type 0 where
  pub fits : bound < 2 ^ 64
  pub orders : (k : ℕ) (place : Place) → places k ≡ Some place → place.order < bound
  pub stands : stays ≡ true → StandsIn places process slot

-- a slot has a place in the chain of a process, and the others have those that they had
pub record Joins (owners : Rings) (places : ℕ → Option Place) (slot process bound : ℕ) : Type 0 where
  pub place : Place
  pub at_home : place.home ≡ process
  pub low : place.order ≤ bound
  pub are : AreChains owners (with_place places slot (Some place))

-- a row of the chain of a process, or that it has no slot
abbrev pub IsIn : List (Option Key) → (ℕ → Option Place) → ℕ → Option Row → Type 0
IsIn keys left process (Some row) = (key_in keys row.slot ≡ Some (key_of row)) × StandsIn left process row.slot
IsIn keys left process None =
    (k : ℕ) (place : Place) → k < length keys → left k ≡ Some place → place.home ≢ process

-- some slots have left their chains, and then a row was found, or none is left
pub record FindsRow (keys : List (Option Key)) (places : ℕ → Option Place) (process : ℕ) (owners : Rings) (found : Option Row) : Type 0 where
  pub left : ℕ → Option Place
  pub thinned : Thinned owners keys places left
  pub is : IsIn keys left process found
