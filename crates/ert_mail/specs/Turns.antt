-- Numbers that wait for their turn.

use Rattle.std.specs.Prelude.{◌≡◌, ℕ, ◌<◌, ◌≤◌, Bool, true, List, nat_eq, refl}
use Rattle.std.specs.{Coded.{Coded, code_by, coded×, coded_ℕ, coded_list}, List.{IsDistinct, list_any}}

-- the numbers of a row: all are below a bound, and they are held from the first to the last
pub record TurnRow : Type 0 where
  pub bound : ℕ
  pub held : List ℕ

-- stored as the pair of both
abbrev pub row_code : Coded TurnRow
row_code =
    code_by (ℕ × List ℕ) (coded× coded_ℕ (coded_list coded_ℕ)) (λ r. (r.bound, r.held))
    (λ p. record { bound = p.0; held = p.1 }) (λ _. refl)

-- whether a number stands in a row
abbrev pub is_listed : TurnRow → ℕ → Bool
is_listed row number = list_any (nat_eq number) row.held

-- each number stands once, all are below the bound, and there is room for as many
pub record AreTurns (row : TurnRow) (capacity : ℕ) : Type 0 where
  pub once : IsDistinct nat_eq row.held
  pub below : (number : ℕ) → is_listed row number ≡ true → number < row.bound
  pub room : row.bound ≤ capacity
