use Rattle.std.proofs.Common.{◌-◌, ◌≤◌, ℕ, List, Option}
use Rattle.ert_wheel.proofs.wheel.Wheel.told_at.Given as goal
use Rattle.ert_wheel.specs.{NextDue.WindowBegins, declared.row.Key.Key}

-- no row stands in a window of a level below one that begins at the time
pub record Looked (keys : List (Option Key)) (stands : List (Option ℕ)) (passed time level : ℕ) : Type 0 where
  pub above : 1 ≤ level
  pub highest : level ≤ 5
  pub none : (b : WindowBegins keys stands passed time) → level ≤ b.in_window.level

abbrev pub invariant-loop-level : goal.invariant-loop-level
invariant-loop-level g l = Looked l.self.keys l.self.stands l.self.passed l.time l.level

abbrev pub decreases-loop-level : goal.decreases-loop-level
decreases-loop-level g l = 5 - l.level
