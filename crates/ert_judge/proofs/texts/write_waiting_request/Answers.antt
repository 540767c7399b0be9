use Rattle.std.proofs.Common.{codes}
use Rattle.ert_judge.proofs.Pieces.{ok_map, joined}
use Rattle.ert_judge.proofs.texts.write_waiting_request.Goals as goal

pub returns : goal.returns
returns c = ok_map c.write_request.result (joined _ _ _ (codes "the first request that waits is ") _ c.in_ok-write.ensures.bytes) c.write_request.ensures
