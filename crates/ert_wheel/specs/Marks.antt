-- A mark for each bucket, in words of 64 bits.

use Rattle.std.specs.Prelude.{◌≡◌, ◌≢◌, ℕ, length, ◌+◌, ◌<◌, ◌≤◌, ◌/◌, ◌%◌, List, Option, Some, slice_index_or}
use Rattle.std.specs.Int.{bit_at}
use Rattle.ert_wheel.specs.{Levels.bucket_of_window, Links.next_at, Rings.{Rings, Place, StandsIn}, declared.row.TheConstants.BUCKETS}

-- the mark of a bucket: 1 or 0
abbrev pub mark_of : List ℕ → ℕ → ℕ
mark_of words bucket = bit_at (slice_index_or words (bucket / 64) 0) (bucket % 64)

-- a bit for each of the first 64 words tells whether it has a mark
pub record AreSummed (words : List ℕ) (used : ℕ) : Type 0 where
  pub wide : length words ≡ 67
  pub none : (at : ℕ) → at < 64 → bit_at used at ≡ 0 → slice_index_or words at 0 ≡ 0
  pub some : (at : ℕ) → at < 64 → bit_at used at ≡ 1 → slice_index_or words at 0 ≢ 0

-- the node after the head of a home
abbrev pub newest_node : Rings → ℕ → ℕ
newest_node r home = next_at r.links (r.slots + home)

-- a bucket is marked just where its chain has a slot
pub record AreMarked (r : Rings) (marks : List ℕ) : Type 0 where
  pub homes : r.homes ≡ BUCKETS
  pub used : (home : ℕ) → home < BUCKETS → mark_of marks home ≡ 1 → newest_node r home < r.slots
  pub clear : (home : ℕ) → home < BUCKETS → mark_of marks home ≡ 0 → r.slots ≤ newest_node r home

-- some slot belongs to a home
pub record HasSlot (r : Rings) (places : ℕ → Option Place) (home : ℕ) : Type 0 where
  pub slot : ℕ
  pub low : slot < r.slots
  pub stands : StandsIn places home slot

-- the first home that has a slot, from one on and before an end; the end where there is none
pub record FirstUsed (r : Rings) (places : ℕ → Option Place) (from end found : ℕ) : Type 0 where
  pub none_below : (j : ℕ) (p : Place) → j < r.slots → places j ≡ Some p → from ≤ p.home → p.home < end → found ≤ p.home
  pub has_slot : found < end → HasSlot r places found

-- the first window of a level whose bucket has a slot, from one on and before an end; the end where there is none
pub record FirstWindow (r : Rings) (places : ℕ → Option Place) (level from end found : ℕ) : Type 0 where
  pub none_below : (window j : ℕ) (p : Place) → j < r.slots → places j ≡ Some p → from ≤ window → window < end
      → p.home ≡ bucket_of_window level window → found ≤ window
  pub has_slot : found < end → HasSlot r places (bucket_of_window level found)
