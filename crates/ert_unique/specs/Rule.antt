-- The rule of unique integers: what is so of the word and of what all passes know, between any two steps.

use Rattle.std.specs.Prelude.{◌≡◌, ◌⊎◌, ℕ, ◌*◌, ◌^◌, ◌≤◌, List, [], ◌∷◌, ◌++◌, length, All, sum_by}
use mathlib.Core.Option.{some}
use lib.ListN.{get_elem?}
use Rattle.ert_unique.specs.{Numbers.IsOneTo, Views.emptied, declared.view.View.View}

-- the numbers that all passes drew
abbrev pub all_draws : List View → List ℕ
all_draws [] = []
all_draws (v ∷ views) = v.draws ++ all_draws views

-- what is so of each pass, where so many were opened and the word is this
pub record DrawsFit (passes word : ℕ) (v : View) : Type 0 where
  pub short : length v.draws ≤ 2 ^ 40 * v.share
  pub seen : v.seen ≤ word
  pub greatest : All (λ n. n ≤ v.seen) v.draws
  pub opened : (v.passes ≡ passes) ⊎ (v ≡ emptied)

-- there is one word, the draws of all passes together are the numbers from 1 to it, the shares add up to
-- the number of passes that were opened, and each pass fits
pub record AreUniqueDraws (passes : ℕ) (words : List ℕ) (views : List View) : Type 0 where
  pub word : ℕ
  pub alone : words ≡ word ∷ []
  pub numbers : IsOneTo word (all_draws views)
  pub shares : sum_by (λ v. v.share) views ≡ passes
  pub fits : (k : ℕ) (v : View) → get_elem? views k ≡ some v → DrawsFit passes word v
