use Rattle.ert_judge.proofs.texts.write_outcome.Goals as goal

pub returns-in-None : goal.returns-in-None
returns-in-None c = rw c.in-None.is c.write.ensures.bytes
