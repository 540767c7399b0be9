use Rattle.std.proofs.Common.{◌≡◌, ◌++◌, string_bytes, rules, subst, FitsSigned, w64, to_z-of_z}
use Rattle.ert_defs.specs.States.{state}
use Rattle.ert_laws.specs.Counts.{Counts, counts_of}
use Rattle.ert_program.specs.{Reports.{all_labels, lists_text}, Lists.dids_of}
use Rattle.ert_program.proofs.Reported.{page_of}
use Rattle.ert_ops.specs.{Counts.settled_line, Texts.end_line}
use Rattle.ert_program.proofs.races.run.report_page.Goals as goal

pub returns : goal.returns
returns c =
    let now : FitsSigned w64 c.published.result = search rules in
    let w = c.args.end.now.world in
    let dids = dids_of c.args.end.now.lists.items in
    let all = all_labels c.args.labels dids in
    let named = rw c.deref.ensures.value at c.in_ok-name_all.ensures in
    let lists = rw (c.deref-2.ensures.value, named) at c.in_ok-write_lists.ensures in
    let settled = subst (λ (n : Counts). string_bytes c.write_settled.new.page ≡ string_bytes c.write_lists.new.page ++ settled_line n) c.counts.ensures
    c.in_ok-write_settled.ensures in
    let last = simp to_z-of_z at c.in_ok-write_end.ensures in
    page_of (string_bytes c.new-page.result) (string_bytes c.write_lists.new.page) (string_bytes c.write_settled.new.page) (string_bytes c.write_end.new.page)
    (lists_text all 0 dids) (settled_line (counts_of w.settings (state w.settings w.history))) (end_line w.clock.face.time)
    c.new-page.ensures.bytes lists settled (rw c.published.ensures at last)
