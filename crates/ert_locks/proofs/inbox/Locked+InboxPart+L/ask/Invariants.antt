use Rattle.ert_effects.specs.RequestCalls.{Asks}
use Rattle.ert_locks.proofs.inbox.Locked+InboxPart+L.ask.Given as goal

abbrev pub ghosts-lend : goal.ghosts-lend
ghosts-lend g a = record { allows = λ s by n answer. Asks s by n a.call.1.now answer }
