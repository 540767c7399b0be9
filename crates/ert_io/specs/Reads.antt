-- What was read of an input, between two moments.

use Rattle.std.specs.Prelude.{◌≡◌, ◌≤◌, ℕ, List, Bool, true, Option, length}
use Rattle.ert_io.specs.Known.{StreamTold, stream_told, HandsOut, IsAtEnd}

-- an input, at one moment: the bytes that it gave and those that it has left, whether it has ended, and how many reads
-- failed
pub record Input : Type 0 where
  pub told : StreamTold ℕ
  pub ended : Bool
  pub faults : ℕ

-- the input that a source is, by the bytes that it gave, its end, the bytes that it has left and its failed reads
abbrev pub input_of : {S : Type 0} → (S → List ℕ) → (S → Bool) → (S → Option (List ℕ)) → (S → ℕ) → S → Input
input_of given ended left faults source = record { told = stream_told (given source) (left source); ended = ended source; faults = faults source }

-- these bytes were read, they are all that there were, and no more than an input may have
pub record ReadsAll (i j : Input) (bytes : List ℕ) : Type 0 where
  pub reads : HandsOut i.told j.told bytes
  pub short : length bytes ≤ 16777216
  pub ended : j.ended ≡ true
  pub none_left : IsAtEnd j.told.left

-- more bytes were read than an input may have
pub record ReadsMore (i j : Input) : Type 0 where
  pub bytes : List ℕ
  pub many : length bytes ≡ 16777217
  pub reads : HandsOut i.told j.told bytes
