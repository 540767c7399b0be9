use Rattle.ert_effects.specs.TimerCalls.{Starts}
use Rattle.ert_locks.proofs.wheel.Locked+WheelPart+L.start.Given as goal

abbrev pub ghosts-lend : goal.ghosts-lend
ghosts-lend g a = record { allows = λ s by n answer. Starts s by n a.call.1.now answer }
