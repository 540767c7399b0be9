use Rattle.std.proofs.Common.{codes}
use Rattle.ert_judge.proofs.Pieces.{ok_map, joined}
use Rattle.ert_judge.proofs.texts.write_first_mail.Goals as goal

pub returns : goal.returns
returns c = ok_map c.write_mail.result (joined _ _ _ (codes "the first message is ") _ c.in_ok-write.ensures.bytes) c.write_mail.ensures
