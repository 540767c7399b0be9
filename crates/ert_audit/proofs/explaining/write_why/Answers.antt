use Rattle.ert_audit.proofs.Messages.{ok_map, joined}
use Rattle.ert_audit.proofs.explaining.write_why.Goals as goal

pub returns : goal.returns
returns c = ok_map c.write_ended.result (joined _ _ _ _ _ c.in_ok-write.ensures.bytes) c.write_ended.ensures
