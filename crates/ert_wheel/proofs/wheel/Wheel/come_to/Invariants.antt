use Rattle.std.proofs.Common.{◌≡◌, ◌<◌, ◌≤◌, ℕ}
use Rattle.ert_wheel.proofs.wheel.Wheel.come_to.Given as goal
use Rattle.ert_wheel.specs.{Rows.Held, Standing.StayOrFall}

-- what stays, and time is before that to which it comes
pub record Nears {T : Type 0} (first now : Held T) (time level most moves : ℕ) : Type 0 where
  pub keys : now.keys ≡ first.keys
  pub stands : StayOrFall first.keys now.passed first.stands now.stands
  pub owners : now.owners ≡ first.owners
  pub values : now.values ≡ first.values
  pub passed : first.passed ≤ now.passed
  pub before : now.passed < time
  pub highest : level ≤ 4
  pub fewer : moves ≤ most

abbrev pub invariant-loop-level : goal.invariant-loop-level
invariant-loop-level g l = Nears l.fn.self l.self l.time l.level l.fn.moves l.moves

abbrev pub decreases-loop-level : goal.decreases-loop-level
decreases-loop-level g l = l.level
