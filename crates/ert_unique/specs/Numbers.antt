-- Lists of numbers in which none is missing and none stands twice.

use Rattle.std.specs.Prelude.{◌≡◌, ℕ, ◌≤◌, cond, nat_lt, nat_le, ◌&&◌, ◌==◌, List, length, count_by}

-- how often a number stands in a list
abbrev pub occurrences : ℕ → List ℕ → ℕ
occurrences x xs = count_by (λ y. y == x) xs

-- no number stands twice in the list
abbrev pub AllDiffer : List ℕ → Type 0
AllDiffer xs = (x : ℕ) → occurrences x xs ≤ 1

-- how often a number stands among 1 to n: once, or not at all
abbrev pub within : ℕ → ℕ → ℕ
within x n = cond (nat_lt 0 x && nat_le x n) 1 0

-- the list is the numbers from 1 to n in some order: each once, none left out and no other
pub record IsOneTo (n : ℕ) (xs : List ℕ) : Type 0 where
  pub count : length xs ≡ n
  pub once : (x : ℕ) → occurrences x xs ≡ within x n

-- a list has the numbers of another, each as often
pub record IsRearranged (xs ys : List ℕ) : Type 0 where
  pub count : length ys ≡ length xs
  pub as_often : (x : ℕ) → occurrences x ys ≡ occurrences x xs
