use Rattle.ert_effects.specs.MailCalls.{Takes}
use Rattle.ert_locks.proofs.mail.Locked+MailPart+L.take.Given as goal

abbrev pub ghosts-lend : goal.ghosts-lend
ghosts-lend g a = record { allows = λ s by n answer. Takes s by n answer }
