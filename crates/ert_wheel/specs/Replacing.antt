-- A slot's row that another takes the place of.

use Rattle.std.specs.Prelude.{◌≡◌, ◌⊎◌, ℕ}
use Rattle.ert_wheel.specs.{Levels.{IsLeastBucket, StaysPut}, Rings.{Rings, MovesSlot}}

-- a row moves to the least bucket of its time
pub record MovesTo (next time : ℕ) (old new : Rings) (slot : ℕ) : Type 0 where
  pub home : ℕ
  pub least : IsLeastBucket next time home
  pub moves : MovesSlot old new slot home

-- a row keeps its bucket
pub record KeepsBucket (next was time : ℕ) (old new : Rings) : Type 0 where
  pub put : StaysPut next was time
  pub same : new ≡ old

-- either
abbrev pub MovesOrStays : ℕ → ℕ → ℕ → Rings → Rings → ℕ → Type 0
MovesOrStays next was time old new slot = KeepsBucket next was time old new ⊎ MovesTo next time old new slot
