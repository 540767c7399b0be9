-- What is kept of the slots that are written: by slot a value, and the key of its last row.

use Rattle.std.specs.Prelude.{◌≡◌, ℕ, ◌≤◌, List, length}
use Rattle.ert_wheel.specs.{Rings.Rings, declared.row.Key.Key}

-- keys and values by slot, and for how many slots there is room
pub record KeptSlots (T : Type 0) : Type 0 where
  pub keys : List Key
  pub values : List T
  pub room : ℕ

-- as many slots have a record as links among the buckets and among the owners, and there is room for all
pub record AreAlike {T : Type 0} (kept : KeptSlots T) (buckets owners : Rings) : Type 0 where
  pub records : length kept.keys ≡ buckets.written
  pub owned : owners.written ≡ buckets.written
  pub most : buckets.written ≤ buckets.slots
  pub most_owned : owners.written ≤ owners.slots
  pub room : buckets.slots ≤ kept.room
