use Rattle.ert_effects.specs.ClockCalls.{Ticks}
use Rattle.ert_locks.proofs.keeper.Locked+KeeperPart+L.tick.Given as goal

abbrev pub ghosts-lend : goal.ghosts-lend
ghosts-lend g a = record { allows = λ s by n answer. Ticks s by a.call.1.now a.call.2.now answer }
