use Rattle.ert_effects.specs.WheelCalls.{Sweeps}
use Rattle.ert_locks.proofs.wheel.Locked+WheelPart+L.sweep.Given as goal

abbrev pub ghosts-lend : goal.ghosts-lend
ghosts-lend g a = record { allows = λ s by n answer. Sweeps s by n a.call.1.now }
