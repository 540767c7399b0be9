-- A call goes through a handle to the service or the seat behind it.

use Rattle.std.specs.Prelude.{◌≡◌, ◌<◌, ◌≤◌, ℕ, ℤ, Option, Some, None}
use Rattle.ert_c.specs.declared.status.TheConstants.{CLOSED, RANGE}

-- a closed handle stays closed, and what C passed is as it was; else what stands behind an open one makes
-- the call, and stands there then
abbrev pub Through : {W : Type 0} → Type 0 → (W → W → Type 0) → Option W → ℤ → Option W → Type 0
Through same call None status new = (status ≡ CLOSED) × (new ≡ None) × same
Through {W} same call (Some old) status new = (w : W) × (new ≡ Some w) × call old w

-- a call is answered, and C is told the answer
pub record TellsC {W A : Type 0} (call : A → W → W → Type 0) (tells : A → Type 0) (old new : W) : Type 0 where
  pub answer : A
  pub made : call answer old new
  pub told : tells answer

-- a call goes through a handle, and C finds the answer in a place of its own; where the handle is closed, that
-- place is as it was
abbrev pub AnswersThrough : {W A P : Type 0} → (A → W → W → Type 0) → (A → P → ℤ → P → Type 0) → P → P → Option W → ℤ → Option W → Type 0
AnswersThrough call tells kept found old status new = Through (found ≡ kept) (TellsC call (λ answer. tells answer kept status found)) old status new

-- a number that is too great is refused, and nothing has changed
pub record IsOutOfRange {W : Type 0} (status : ℤ) (kept : Type 0) (old new : W) : Type 0 where
  pub told : status ≡ RANGE
  pub unchanged : new ≡ old
  pub same : kept

-- a call with a number below a limit
pub record IfBelow (n limit : ℕ) (call refused : Type 0) : Type 0 where
  pub below : n < limit → call
  pub above : limit ≤ n → refused

-- what C passed is refused by this status, and nothing has changed
pub record IsRefusedAs {W : Type 0} (why status : ℤ) (old new : W) : Type 0 where
  pub told : status ≡ why
  pub unchanged : new ≡ old
