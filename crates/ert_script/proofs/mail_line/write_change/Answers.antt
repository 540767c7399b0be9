use Rattle.std.proofs.Common.{codes, rules, FitsSigned, w64, to_z-of_z}
use Rattle.ert_script.proofs.Texts.{ok_map, joined}
use Rattle.ert_script.proofs.mail_line.write_change.Goals as goal

pub returns : goal.returns
returns c =
    let offset : FitsSigned w64 c.args.offset = search rules in
    ok_map c.write_told.result (joined _ _ _ (codes "receive change ") _ c.in_ok-write.ensures.bytes) (simp to_z-of_z at c.write_told.ensures)
