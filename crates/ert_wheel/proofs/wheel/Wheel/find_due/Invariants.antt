use Rattle.std.proofs.Common.{◌<◌, ℕ}
use Rattle.ert_wheel.specs.NextDue.{IsDueOf}
use Rattle.ert_wheel.proofs.wheel.Wheel.find_due.Given as goal

-- the row of no slot below is due at it
abbrev pub invariant-loop-slot : goal.invariant-loop-slot
invariant-loop-slot g l = (slot : ℕ) → slot < l.slot → IsDueOf l.self.keys slot l.time → ⊥
