use Rattle.ert_audit.proofs.Messages.{ok_map, joined}
use Rattle.ert_audit.proofs.explaining.write_ended.Goals as goal

pub returns : goal.returns
returns c = ok_map c.write.result (joined _ _ _ _ _ c.in_ok-write_reason.ensures) c.write.ensures.bytes
