-- Where a byte of the input stands.

use Rattle.std.specs.Prelude.{◌≡◌, ◌≤◌, ◌+◌, ℕ, ◌==◌, List, [], ◌∷◌, length, take, min, count_by, if◌then◌else◌}
use Rattle.ert_explain.specs.declared.position.Position.{Position}

-- how many bytes stand behind the last newline, where so many stand behind it in front of these
abbrev pub since_newline : ℕ → List ℕ → ℕ
since_newline n [] = n
since_newline n (b ∷ bs) = if b == 10 then since_newline 0 bs else since_newline (n + 1) bs

-- the place behind these bytes: its line is one more than their newlines, and its column one more than the bytes
-- behind the last newline
abbrev pub position_behind : List ℕ → Position
position_behind before = record {
  offset = length before;
  line = count_by (λ b. b == 10) before + 1;
  column = since_newline 0 before + 1;
}

-- the place behind the first so many bytes, or the end where there are fewer
unfoldable pub position_at : List ℕ → ℕ → Position
position_at bytes offset = position_behind (take (min offset (length bytes)) bytes)

-- the position lies in the bytes or at their end, and its line and column are those of its offset
pub record IsPosition (bytes : List ℕ) (p : Position) : Type 0 where
  pub inside : p.offset ≤ length bytes
  pub counted : p ≡ position_behind (take p.offset bytes)
