use Rattle.ert_tests.proofs.Counted.{AreFrom}
use Rattle.ert_tests.proofs.tests.seats.are_callers.Given as goal

abbrev pub invariant-loop-at : goal.invariant-loop-at
invariant-loop-at g l = AreFrom (λ s. s.number) l.at l.seats.items
