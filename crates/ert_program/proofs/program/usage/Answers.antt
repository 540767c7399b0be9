use Rattle.ert_io.proofs.Takes.{took_front}
use Rattle.ert_program.proofs.program.usage.Goals as goal

pub returns-in-Err-clause-write_fault : goal.returns-in-Err-clause-write_fault
returns-in-Err-clause-write_fault g c = λ how.
    took_front _ _ _ _ _ _ (rw c.as_bytes.ensures.value at c.in-Err.ensures.written) (rw c.as_bytes.ensures.value at c.in-Err.ensures.err)
    c.in-Err.ensures.room_left
