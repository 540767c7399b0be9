use Rattle.std.proofs.Common.{◌≡◌, take}
use Rattle.ert_program.specs.{Reports.all_labels, Lists.dids_of}
use Rattle.ert_program.proofs.races.report.name_all.Given as goal

abbrev pub invariant-loop-list : goal.invariant-loop-list
invariant-loop-list l = l.labels ≡ all_labels l.fn.labels (dids_of (take l.list-index l.lists))
