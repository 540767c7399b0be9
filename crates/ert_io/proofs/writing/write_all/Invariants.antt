use Rattle.std.proofs.Common.{◌≡◌, ◌++◌, ◌-◌, ◌≤◌, length, take}
use Rattle.ert_io.specs.Known.{more_by}
use Rattle.ert_io.proofs.writing.write_all.Given as goal

-- the first bytes were appended, and took their room
abbrev pub invariant-writes : goal.invariant-writes
invariant-writes g l = record {
  within : l.written ≤ length l.bytes;
  taken : g.K.Sink.taken l.sink ≡ g.K.Sink.taken l.fn.sink ++ take l.written l.bytes;
  room : g.K.Sink.room l.fn.sink ≡ more_by l.written (g.K.Sink.room l.sink);
  later : g.K.Sink.faults l.fn.sink ≤ g.K.Sink.faults l.sink;
}

abbrev pub decreases-writes : goal.decreases-writes
decreases-writes g l = length l.bytes - l.written
