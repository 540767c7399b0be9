use Rattle.ert_effects.specs.MailCalls.{Monitors}
use Rattle.ert_locks.proofs.mail.Locked+MailPart+L.monitor.Given as goal

abbrev pub ghosts-lend : goal.ghosts-lend
ghosts-lend g a = record { allows = λ s by n answer. Monitors s by n answer }
