use Rattle.ert_effects.specs.RequestCalls.{Answers}
use Rattle.ert_locks.proofs.mail.handing.Locked+MailPart+L.answer.Given as goal

abbrev pub ghosts-lend : goal.ghosts-lend
ghosts-lend g a = record { allows = λ s w n answer. Answers s w a.call.1.now answer }
