use Rattle.ert_effects.specs.ClockCalls.{Finalizes}
use Rattle.ert_locks.proofs.keeper.Locked+KeeperPart+L.finalize.Given as goal

abbrev pub ghosts-lend : goal.ghosts-lend
ghosts-lend g a = record { allows = λ s by n answer. Finalizes s by a.call.1.now answer }
