use Rattle.ert_audit.proofs.Messages.{ok_map, joined}
use Rattle.ert_audit.proofs.refusing.write_fault.Goals as goal

pub returns : goal.returns
returns c = ok_map c.write_word.result (joined _ _ _ _ _ c.in_ok-write_place.ensures) (rw c.first_word.ensures.word at c.write_word.ensures)
