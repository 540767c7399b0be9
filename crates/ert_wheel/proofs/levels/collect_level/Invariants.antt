use Rattle.std.proofs.Common.{◌≡◌, ◌≤◌, ◌+◌, ◌-◌, ◌/◌, ◌^◌, ℕ, vec_capacity}
use Rattle.ert_wheel.proofs.Seen.{IsSeen}
use Rattle.ert_wheel.proofs.levels.collect_level.Given as goal
use Rattle.ert_wheel.specs.{Walks.{StandOnLevels, AreCollected}, Wheels.held_keys, declared.row.Key.Key}

-- the windows before one were seen
pub record Sees (room capacity from window end : ℕ) (seen : Type 0) : Type 0 where
  pub capacity_stays : room ≡ capacity
  pub from_on : from ≤ window
  pub low : window ≤ end
  pub sees : seen

abbrev pub invariant-loop-window : goal.invariant-loop-window
invariant-loop-window g l =
    Sees (vec_capacity l.rows) (vec_capacity l.fn.rows) (l.next_time / 512 ^ l.level) l.window l.end
    ((levels : Key → ℕ) (stand : StandOnLevels l.next_time l.chains (held_keys l.chains l.kept.keys) levels)
    → AreCollected (held_keys l.chains l.kept.keys) levels (l.level + 1) l.to l.fn.rows.items
    → IsSeen l.next_time (held_keys l.chains l.kept.keys) levels stand.time l.level l.window l.to l.rows.items)

abbrev pub decreases-loop-window : goal.decreases-loop-window
decreases-loop-window g l = l.end - l.window
