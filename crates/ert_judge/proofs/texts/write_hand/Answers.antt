use Rattle.std.proofs.Common.{codes}
use Rattle.ert_judge.proofs.Pieces.{ok_map, joined}
use Rattle.ert_judge.proofs.texts.write_hand.Goals as goal

pub returns : goal.returns
returns c = ok_map c.write_request.result (joined _ _ _ (codes "a request is in the scheduler's hand: ") _ c.in_ok-write.ensures.bytes) c.write_request.ensures
