use Rattle.std.proofs.Common.{◌-◌, ◌<◌, ◌≤◌, ◌/◌, ◌^◌, ℕ, List, Option}
use Rattle.ert_wheel.proofs.NextDue.{NoneUpTo}
use Rattle.ert_wheel.proofs.levels.early_on.Given as goal
use Rattle.ert_wheel.specs.{Falling.HasRowIn, NextDue.IsEarlyOrNever, Standing.homes_of, Walks.StandOnLevels, Wheels.held_keys, declared.row.Key.Key}

-- the windows before one were looked at
pub record Looked (keys : List (Option Key)) (stands : List (Option ℕ)) (level next window end earliest before : ℕ) (early none : Type 0) : Type 0 where
  pub after : next < window
  pub up : window ≤ end
  pub low : earliest ≤ before
  pub early_is : early
  pub none_so_far : none
  pub some : window < end → HasRowIn keys stands level window

abbrev pub invariant-loop-window : goal.invariant-loop-window
invariant-loop-window g l =
    Looked (held_keys l.chains l.kept.keys) (homes_of l.chains) l.level (l.next_time / 512 ^ l.level) l.window l.end l.earliest.time l.fn.before.time
    (IsEarlyOrNever (held_keys l.chains l.kept.keys) (homes_of l.chains) l.next_time l.earliest.time)
    ((levels : Key → ℕ) (stand : StandOnLevels l.next_time l.chains (held_keys l.chains l.kept.keys) levels)
    → NoneUpTo (held_keys l.chains l.kept.keys) levels stand.time l.next_time l.level l.window l.earliest.time)

abbrev pub decreases-loop-window : goal.decreases-loop-window
decreases-loop-window g l = l.end - l.window
