use Rattle.std.proofs.Common.{◌-◌, ◌≤◌, ℕ}
use Rattle.ert_wheel.proofs.NextDue.{NoneBelow}
use Rattle.ert_wheel.proofs.levels.early_above.Given as goal
use Rattle.ert_wheel.specs.{NextDue.{IsEarlyOrNever, NoneOn}, Standing.homes_of, Walks.StandOnLevels, Wheels.held_keys, declared.row.Key.Key}

-- the levels below one were looked at
pub record Looked (level : ℕ) (early below : Type 0) : Type 0 where
  pub above : 1 ≤ level
  pub highest : level ≤ 5
  pub early_is : early
  pub none : below

abbrev pub invariant-loop-level : goal.invariant-loop-level
invariant-loop-level g l =
    Looked l.level (IsEarlyOrNever (held_keys l.chains l.kept.keys) (homes_of l.chains) l.next_time l.earliest.time)
    ((levels : Key → ℕ) → StandOnLevels l.next_time l.chains (held_keys l.chains l.kept.keys) levels
    → NoneOn (held_keys l.chains l.kept.keys) levels 0 l.fn.near.time
    → NoneBelow (held_keys l.chains l.kept.keys) levels l.level l.earliest.time)

abbrev pub decreases-loop-level : goal.decreases-loop-level
decreases-loop-level g l = 5 - l.level
