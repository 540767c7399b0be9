use Rattle.std.proofs.Common.{◌≡◌, ◌≤◌, ℕ, vec_capacity}
use Rattle.ert_wheel.proofs.wheel.Wheel.due.Given as goal
use Rattle.ert_wheel.specs.{Walks.{StandOnLevels, AreCollected}, declared.row.Key.Key}

-- the due rows of the levels from one on, in the room that was there
pub record Collected (level room capacity : ℕ) (collected : Type 0) : Type 0 where
  pub highest : level ≤ 5
  pub capacity_stays : room ≡ capacity
  pub so_far : collected

abbrev pub invariant-loop-level : goal.invariant-loop-level
invariant-loop-level g l =
    Collected l.level (vec_capacity l.out) (vec_capacity l.fn.out)
    ((levels : Key → ℕ) → StandOnLevels l.self-inside.next_time l.self-inside.buckets l.self.keys levels
    → AreCollected l.self.keys levels l.level l.to l.out.items)

abbrev pub decreases-loop-level : goal.decreases-loop-level
decreases-loop-level g l = l.level
