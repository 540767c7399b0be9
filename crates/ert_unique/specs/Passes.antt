-- What callers see of the unique integers of a system, and of a pass.

use Rattle.std.specs.Prelude.{◌≡◌, ℕ, zero, suc, List, [], ◌∷◌, ◌++◌, length, All}
use Rattle.ert_unique.specs.declared.uniques.{UniquePass.UniquePass, Uniques.Uniques}

-- how many passes were opened
abbrev pub passes_of : Uniques → ℕ
passes_of u = u.table.shared.key

-- the monotonic numbers that a pass drew, in order
abbrev pub draws_of : UniquePass → List ℕ
draws_of p = p.seat.me.0.draws

-- the greatest monotonic number that a pass has seen; 0 where it has seen none
abbrev pub seen_of : UniquePass → ℕ
seen_of p = p.seat.me.0.seen

-- which of the passes it is, counted from 0
abbrev pub number_of : UniquePass → ℕ
number_of p = p.number

-- how many plain numbers a pass answered
abbrev pub plains_of : UniquePass → ℕ
plains_of p = p.plains

-- a pass was opened with these unique integers
pub record BelongsToUniques (u : Uniques) (p : UniquePass) : Type 0 where
  pub table : p.seat.table_id ≡ u.table.shared.table_id
  pub opened : p.seat.me.0.passes ≡ passes_of u

-- a pass has drawn nothing, seen nothing and answered nothing
pub record IsNew (p : UniquePass) : Type 0 where
  pub draws : draws_of p ≡ []
  pub seen : seen_of p ≡ 0
  pub plains : plains_of p ≡ 0

-- a pass is the same one as before, with the same draws and as many plain answers
pub record IsSamePass (before after : UniquePass) : Type 0 where
  pub number : number_of after ≡ number_of before
  pub draws : draws_of after ≡ draws_of before
  pub plains : plains_of after ≡ plains_of before

-- the numbers below n, in order
abbrev pub below : ℕ → List ℕ
below zero = []
below (suc n) = below n ++ n ∷ []

-- these are all passes of the unique integers
pub record AreAll (u : Uniques) (passes : List UniquePass) : Type 0 where
  pub count : length passes ≡ passes_of u
  pub belong : All (BelongsToUniques u) passes

-- the monotonic numbers that some passes drew
abbrev pub draws_together : List UniquePass → List ℕ
draws_together [] = []
draws_together (p ∷ passes) = draws_of p ++ draws_together passes
