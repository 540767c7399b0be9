use Rattle.ert_io.proofs.Takes.{took_is, took_front}
use Rattle.ert_script.proofs.output.write_page.Goals as goal

pub returns-in-Ok-clause-ok : goal.returns-in-Ok-clause-ok
returns-in-Ok-clause-ok g c =
    took_is _ _ _ _ _ (rw c.as_bytes.ensures.value at c.in-Ok.ensures.ok) (rw c.as_bytes.ensures.value at c.in-Ok.ensures.room)

pub returns-in-Err-clause-err : goal.returns-in-Err-clause-err
returns-in-Err-clause-err g c =
    took_front _ _ _ _ _ _ (rw c.as_bytes.ensures.value at c.in-Err.ensures.written) (rw c.as_bytes.ensures.value at c.in-Err.ensures.err) c.in-Err.ensures.room_left
