-- The laws of unique integers and stamps. The functions of src/laws.rt carry them as contracts, so that
-- they are proved.

use Rattle.std.specs.Prelude.{◌≡◌, ℕ, pos, ◌+ℤ◌, ◌*ℤ◌, ◌≤ℤ◌, ◌<ℤ◌, ◌^◌, ◌≤◌}
use Rattle.ert_unique.specs.{Plain.plain_answer, Stamps.stamp_at, declared.stamp.Stamp.Stamp}

-- a plain answer tells which pass gave it, and as which of its answers
abbrev pub LawOfPlainAnswers : Type 0
LawOfPlainAnswers = (number other k m : ℕ) → 1 ≤ k → k ≤ 2 ^ 40 → 1 ≤ m → m ≤ 2 ^ 40
    → plain_answer number k ≡ plain_answer other m → (number ≡ other) × (k ≡ m)

-- the parts of a stamp, put together, are the microseconds that it is of, and the lesser parts are in range
pub record IsSumOf (u : ℕ) (s : Stamp) : Type 0 where
  pub sum : ((s.mega *ℤ pos (10 ^ 12)) +ℤ (s.secs *ℤ pos (10 ^ 6))) +ℤ s.micro ≡ pos u
  pub secs : (pos 0 ≤ℤ s.secs) × (s.secs <ℤ pos (10 ^ 6))
  pub micro : (pos 0 ≤ℤ s.micro) × (s.micro <ℤ pos (10 ^ 6))

-- each stamp is the whole of its microseconds
abbrev pub LawOfStamps : Type 0
LawOfStamps = (u : ℕ) → IsSumOf u (stamp_at u)
