use Rattle.std.proofs.Common.{◌+◌, ◌-◌, ◌<◌, ◌≤◌, length, vec_len}
use Rattle.ert_io.specs.Known.{stream_told, HandsOut}
use Rattle.ert_io.proofs.reading.read_all.Given as goal

-- the source gave the bytes so far, which are one more than the limit at most
abbrev pub invariant-pieces : goal.invariant-pieces
invariant-pieces g l = record {
  piece : 0 < length l.piece;
  short : vec_len l.bytes ≤ l.limit + 1;
  gives : HandsOut (stream_told (g.S.Source.given l.fn.source) (g.S.Source.left l.fn.source)) (stream_told (g.S.Source.given l.source) (g.S.Source.left l.source)) l.bytes.items;
  later : g.S.Source.faults l.fn.source ≤ g.S.Source.faults l.source;
}

abbrev pub decreases-pieces : goal.decreases-pieces
decreases-pieces g l = (l.limit + 1) - vec_len l.bytes
