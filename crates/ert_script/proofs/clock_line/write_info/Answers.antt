use Rattle.std.proofs.Common.{rules, FitsSigned, w64, to_z-of_z}
use Rattle.ert_script.proofs.Texts.{ok_map, joined}
use Rattle.ert_script.proofs.clock_line.write_info.Goals as goal

pub returns : goal.returns
returns c =
    let start : FitsSigned w64 c.args.start = search rules in
    let end : FitsSigned w64 c.args.end = search rules in
    let offset : FitsSigned w64 c.args.offset = search rules in
    ok_map c.write_info_behind.result (joined _ _ _ _ _ (simp to_z-of_z at c.in_ok-write_info_front.ensures)) (simp to_z-of_z at c.write_info_behind.ensures)
