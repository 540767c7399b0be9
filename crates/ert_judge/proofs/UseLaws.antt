-- The laws of the uses of slots: what arming and moving make of them.

use Rattle.std.proofs.Common.{◌≡◌, ◌∙◌, refl, ap, ℕ, cond, nat_eq, List, [], ◌∷◌, ◌++◌}
use Rattle.ert_defs.specs.{Timers.{Row, Uses}, declared.timer.Status.Status, declared.timer.TimerRef.TimerRef}
use Rattle.ert_judge.specs.{Uses.{used_by, uses_from}, Wheels.moved, declared.state.wheels.Timer.Timer}
use Rattle.ert_judge.proofs.WheelLaws.{moved_row}

-- the uses of each slot where there is one more timer
pub uses_push : (u : Uses) (ts : List Timer) (t : Timer) (k : ℕ)
    → uses_from u (ts ++ t ∷ []) k ≡ cond (nat_eq t.row.timer.slot k) (used_by t.row (uses_from u ts k)) (uses_from u ts k)
uses_push u [] t k = refl
uses_push u (v ∷ ts) t k = uses_push (cond (nat_eq v.row.timer.slot k) (used_by v.row u) u) ts t k

-- a move leaves them
pub uses_moved : (u : Uses) (r : TimerRef) (from to : Status) (ts : List Timer) (k : ℕ)
    → uses_from u (moved r from to ts) k ≡ uses_from u ts k
uses_moved u r from to [] k = refl
uses_moved u r from to (t ∷ ts) k =
    ap (λ (row : Row). uses_from (cond (nat_eq row.timer.slot k) (used_by row u) u) (moved r from to ts) k) (moved_row r from to t)
    ∙ uses_moved (cond (nat_eq t.row.timer.slot k) (used_by t.row u) u) r from to ts k
