use Rattle.std.proofs.Common.{◌≡◌, ◌++◌, take}
use Rattle.ert_script.proofs.label_map.LabelMap.bind_all.Given as goal

abbrev pub invariant-loop-label : goal.invariant-loop-label
invariant-loop-label l = l.self ≡ l.fn.self ++ take l.label-index l.pairs
