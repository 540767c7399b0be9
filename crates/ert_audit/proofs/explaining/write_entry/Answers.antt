use Rattle.ert_audit.proofs.Messages.{ok_map, joined}
use Rattle.ert_audit.proofs.explaining.write_entry.Goals as goal

pub returns : goal.returns
returns c = ok_map c.write_why.result (joined _ _ _ _ _ c.in_ok-write_shown.ensures) c.write_why.ensures
