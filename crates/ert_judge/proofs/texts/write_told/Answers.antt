use Rattle.std.proofs.Common.{codes}
use Rattle.ert_judge.proofs.Pieces.{ok_map, joined}
use Rattle.ert_judge.proofs.texts.write_told.Goals as goal

pub returns : goal.returns
returns c = ok_map c.write_left.result (joined _ _ _ (codes "the scheduler's last step on the request told") _ c.in_ok-write.ensures.bytes) c.write_left.ensures
