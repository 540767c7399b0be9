use Rattle.ert_effects.specs.MailCalls.{Demonitors}
use Rattle.ert_locks.proofs.mail.Locked+MailPart+L.demonitor.Given as goal

abbrev pub ghosts-lend : goal.ghosts-lend
ghosts-lend g a = record { allows = λ s by n answer. Demonitors s by n a.call.1.now answer }
