use Rattle.ert_effects.specs.MailCalls.{Notifies}
use Rattle.ert_locks.proofs.mail.Locked+MailPart+L.notify.Given as goal

abbrev pub ghosts-lend : goal.ghosts-lend
ghosts-lend g a = record { allows = λ s by n answer. Notifies s by n answer }
