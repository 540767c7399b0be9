use Rattle.std.proofs.Common.{◌≤◌, string_bytes}
use Rattle.ert_io.specs.Known.{stream_told}
use Rattle.ert_program.proofs.LivedThrough.{IsWatched}
use Rattle.ert_program.proofs.living.watch.Given as goal

abbrev pub invariant-readings : goal.invariant-readings
invariant-readings g l = record {
  so_far : IsWatched l.taken (stream_told (g.C.OsClock.given l.fn.clock) (g.C.OsClock.left l.fn.clock))
      (stream_told (g.C.OsClock.given l.clock) (g.C.OsClock.left l.clock)) l.world (string_bytes l.page);
  later : g.C.OsClock.faults l.fn.clock ≤ g.C.OsClock.faults l.clock;
}
