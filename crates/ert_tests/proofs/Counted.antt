-- Seats that were counted from 0.

use Rattle.std.proofs.Common.{◌≡◌, ℕ, ◌<◌, List, slice_index_or}

-- the first so many of these have the numbers from 0 on
abbrev pub AreFrom : {S : Type 0} → (S → ℕ) → ℕ → List S → Type 0
AreFrom number n seats = (i : ℕ) (d : _) → i < n → number (slice_index_or seats i d) ≡ i
