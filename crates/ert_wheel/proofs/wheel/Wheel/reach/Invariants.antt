use Rattle.std.proofs.Common.{◌≡◌, ◌+◌, ◌-◌, ◌≤◌, ℕ, max}
use Rattle.ert_wheel.proofs.wheel.Wheel.reach.Given as goal
use Rattle.ert_wheel.specs.{FirstDue.IsNextStop, Rows.Held, Standing.StayOrFall}

-- time went on, and this is told of where it may come next
pub record Comes {T : Type 0} (first now : Held T) (to stop most moves : ℕ) : Type 0 where
  pub told : IsNextStop now.keys now.stands now.passed to stop
  pub keys : now.keys ≡ first.keys
  pub stands : StayOrFall first.keys now.passed first.stands now.stands
  pub owners : now.owners ≡ first.owners
  pub values : now.values ≡ first.values
  pub passed : first.passed ≤ now.passed
  pub no_further : now.passed ≤ max first.passed (to + 1)
  pub fewer : moves ≤ most

abbrev pub invariant-loop-self : goal.invariant-loop-self
invariant-loop-self g l = Comes l.fn.self l.self l.to l.stop l.fn.moves l.moves

abbrev pub decreases-loop-self : goal.decreases-loop-self
decreases-loop-self g l = l.to + 1 - l.self.passed
