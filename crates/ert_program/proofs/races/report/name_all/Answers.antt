use Rattle.std.proofs.Common.{◌++◌, ◌∙◌, ap, take}
use Rattle.ert_program.specs.{Reports.all_labels, Lists.dids_of, declared.races.list.ListDone.ListDone}
use Rattle.ert_program.proofs.Reported.{labels_more}
use Rattle.ert_ops.specs.Labels.{Labels}
use Rattle.ert_program.proofs.races.report.name_all.Goals as goal

pub loop-list-preserved : goal.loop-list-preserved
loop-list-preserved c =
    let before : Labels = all_labels c.args.labels.now (dids_of (take c.loop-list.list-index c.args.lists.now)) in
    let more = rw c.pairs.ensures at c.in_ok-bind_all.ensures in
    more ∙ ap (λ (ls : Labels). ls ++ c.list-item.result.own) c.loop-list.invariant ∙ ap (λ (d : ListDone). before ++ d.own) c.list-item.is
    ∙ labels_more c.args.labels.now c.args.lists.now c.loop-list.list-index c.list-item.result c.loop-list-test.true
