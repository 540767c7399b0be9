-- The position of an offset.

use Rattle.std.proofs.Common.{◌≡◌, ◌≤◌, ℕ, List, length, take, min, sym, ap, ◌∙◌, arith}
use Rattle.std.proofs.lemmas.List.{length-take-le}
use Rattle.ert_explain.specs.{Positions.{position_at, position_behind, IsPosition}, declared.position.Position.Position}

-- it lies in the bytes or at their end
pub position_in : (bytes : List ℕ) (offset : ℕ) (p : Position) → p ≡ position_at bytes offset → IsPosition bytes p
unfolding position_at
position_in bytes offset p is =
    let n : ℕ = min offset (length bytes) in
    let low : n ≤ length bytes = omega arith in
    let long : length (take n bytes) ≡ n = length-take-le n bytes low in
    let at : p.offset ≡ n = ap (λ (q : Position). q.offset) is ∙ long in
    record {
      inside = omega arith;
      counted = is ∙ ap (λ (k : ℕ). position_behind (take k bytes)) (sym at);
    }
