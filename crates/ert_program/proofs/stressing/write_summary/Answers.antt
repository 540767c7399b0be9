use Rattle.std.proofs.Common.{rules, ◌≡◌, ◌++◌, string_bytes, subst, FitsSigned, w64, to_z-of_z}
use Rattle.ert_laws.specs.Counts.{Counts}
use Rattle.ert_script.proofs.Texts.{ok_map, joined}
use Rattle.ert_ops.specs.Counts.{settled_line}
use Rattle.ert_program.specs.Stresses.{summary_of}
use Rattle.ert_program.proofs.stressing.write_summary.Goals as goal

pub returns : goal.returns
unfolding summary_of
returns c =
    let now : FitsSigned w64 c.published.result = search rules in
    let last = simp to_z-of_z at c.write_end.ensures in
    let settled = subst (λ (n : Counts). string_bytes c.write_settled.new.page ≡ string_bytes c.args.page.now ++ settled_line n) c.counts-counts.ensures
    c.in_ok-write_settled.ensures in
    ok_map c.write_end.result (λ e. joined _ _ _ _ _ settled e) (rw c.published.ensures at last)
