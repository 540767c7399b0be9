use Rattle.ert_judge.proofs.texts.write_slot.Goals as goal

pub returns-in-Some : goal.returns-in-Some
returns-in-Some c = rw (c.in-Some.is, ← c.status_word.ensures) c.write-in-Some.ensures.bytes
