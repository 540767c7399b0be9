use Rattle.std.proofs.Common.{◌≤◌, string_bytes, take}
use Rattle.ert_io.specs.Told.{sink_told}
use Rattle.ert_script.proofs.Runs.{IsSoFar}
use Rattle.ert_script.proofs.run.run_ops.Given as goal

abbrev pub invariant-loop-op : goal.invariant-loop-op
invariant-loop-op g l = record {
  so_far : IsSoFar l.fn.world l.fn.labels (take l.op-index l.ops) l.world l.labels (sink_told (g.K.Sink.taken l.fn.sink) (g.K.Sink.room l.fn.sink))
      (sink_told (g.K.Sink.taken l.sink) (g.K.Sink.room l.sink)) (string_bytes l.page);
  later : g.K.Sink.faults l.fn.sink ≤ g.K.Sink.faults l.sink;
}
