use Rattle.std.proofs.Common.{◌≡◌, ◌≤◌, ◌+◌, ◌*◌, ℕ}
use Rattle.ert_wheel.proofs.rising.walk_down.Given as goal
use Rattle.ert_wheel.specs.{Ordering.HasRowDue, Wheels.{held_keys, IsWheel}, declared.ordered.Ordered.Ordered}

-- the walk has come to a row, and so much is known
pub record Walks (next left moves most : ℕ) (now : Ordered) (due : Type 0) (wheel : Type 0) : Type 0 where
  pub time : now.time ≡ next
  pub is_due : due
  pub is_wheel : wheel
  pub low : left ≤ moves * 8 + 7
  pub same : moves ≤ most

abbrev pub invariant-loop-older : goal.invariant-loop-older
invariant-loop-older g l =
    Walks l.next_time l.left l.moves l.fn.moves l.ordered (HasRowDue (held_keys l.chains l.kept.keys) l.next_time l.ordered.rising)
    ((count : ℕ) → IsWheel l.next_time count l.fn.ordered (held_keys l.chains l.kept.keys) l.chains
    → IsWheel l.next_time count l.ordered (held_keys l.chains l.kept.keys) l.chains)

abbrev pub decreases-loop-older : goal.decreases-loop-older
decreases-loop-older g l = l.left
