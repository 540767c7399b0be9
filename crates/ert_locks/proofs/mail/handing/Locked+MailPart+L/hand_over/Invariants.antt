use Rattle.ert_effects.specs.MailCalls.{HandsOver}
use Rattle.ert_locks.proofs.mail.handing.Locked+MailPart+L.hand_over.Given as goal

abbrev pub ghosts-lend : goal.ghosts-lend
ghosts-lend g a = record { allows = λ s w n answer. HandsOver s w a.call.1.now answer }
