use Rattle.ert_audit.proofs.Messages.{ok_map, joined}
use Rattle.ert_audit.proofs.refusing.write_word.Goals as goal

pub returns : goal.returns
returns c = ok_map c.write.result (joined _ _ _ _ _ c.in_ok-write_shown.ensures) (rw c.wanted_text.ensures at c.write.ensures.bytes)
