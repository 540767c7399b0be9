-- Plain unique integers: no step is made, since each pass has a range of its own.

use Rattle.std.specs.Prelude.{ℕ, zero, suc, ◌+◌, ◌*◌, ◌^◌, List, [], ◌∷◌, ◌++◌}
use Rattle.ert_unique.specs.{Passes.{number_of, plains_of}, declared.uniques.UniquePass.UniquePass}

-- the k-th plain answer of the pass of a number, counted from 1
abbrev pub plain_answer : ℕ → ℕ → ℕ
plain_answer number k = number * 2 ^ 40 + k

-- the first k plain answers of the pass of a number
abbrev pub plain_answers : ℕ → ℕ → List ℕ
plain_answers number zero = []
plain_answers number (suc k) = plain_answers number k ++ plain_answer number (suc k) ∷ []

-- all plain answers of some passes
abbrev pub plain_together : List UniquePass → List ℕ
plain_together [] = []
plain_together (p ∷ passes) = plain_answers (number_of p) (plains_of p) ++ plain_together passes
