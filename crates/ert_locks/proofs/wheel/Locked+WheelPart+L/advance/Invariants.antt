use Rattle.ert_effects.specs.WheelCalls.{Advances}
use Rattle.ert_locks.proofs.wheel.Locked+WheelPart+L.advance.Given as goal

abbrev pub ghosts-lend : goal.ghosts-lend
ghosts-lend g a = record { allows = λ s w n answer. Advances s w answer }
