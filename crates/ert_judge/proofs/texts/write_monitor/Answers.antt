use Rattle.ert_judge.proofs.texts.write_monitor.Goals as goal

pub returns-then-stands : goal.returns-then-stands
returns-then-stands c = rw c.if-stands.true c.write.ensures.bytes

pub returns-else-stands : goal.returns-else-stands
returns-else-stands c = rw c.if-stands.false c.write-else-stands.ensures.bytes
