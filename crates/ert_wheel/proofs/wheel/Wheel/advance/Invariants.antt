use Rattle.std.proofs.Common.{take}
use Rattle.ert_wheel.proofs.TakesMore.{TakesSome}
use Rattle.ert_wheel.proofs.wheel.Wheel.advance.Given as goal
use Rattle.ert_wheel.specs.Rows.{rows_told}

abbrev pub invariant-loop-row : goal.invariant-loop-row
invariant-loop-row g l = TakesSome l.fn.self l.self (rows_told l.fn.self.keys (take l.row-index l.row-items))
