use Rattle.ert_effects.specs.RequestCalls.{Picks}
use Rattle.ert_locks.proofs.inbox.Locked+InboxPart+L.pick.Given as goal

abbrev pub ghosts-lend : goal.ghosts-lend
ghosts-lend g a = record { allows = λ s w n answer. Picks s w answer }
