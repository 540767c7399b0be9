use Rattle.ert_judge.proofs.texts.write_ms.Goals as goal

pub returns-in-None : goal.returns-in-None
returns-in-None c = rw c.in-None.is c.write.ensures.bytes

pub returns-in-Some : goal.returns-in-Some
returns-in-Some c = rw c.in-Some.is c.write-in-Some.ensures.bytes
