use Rattle.std.proofs.Common.{take}
use Rattle.ert_script.proofs.run.do_ops.Given as goal
use Rattle.ert_script.specs.Written.{RunsAll}

abbrev pub invariant-loop-op : goal.invariant-loop-op
invariant-loop-op l = RunsAll l.fn.world l.fn.labels (take l.op-index l.ops) l.world l.labels
