use Rattle.ert_judge.proofs.texts.write_exit.Goals as goal

pub returns-then-exited : goal.returns-then-exited
returns-then-exited c = rw c.if-exited.true c.write.ensures.bytes

pub returns-else-exited : goal.returns-else-exited
returns-else-exited c = rw c.if-exited.false c.write-else-exited.ensures.bytes
