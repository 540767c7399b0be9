use Rattle.std.proofs.Common.{rules}
use Rattle.std.proofs.lemmas.List.{take_rest}
use Rattle.ert_io.proofs.Parts.{then_more, more_by_more}
use Rattle.ert_io.proofs.writing.write_all.Goals as goal

pub writes-preserved : goal.writes-preserved
writes-preserved g c = record {
  within = search rules;
  taken = then_more _ _ _ _ _ _ _ (take_rest c.args.bytes.now c.writes.written) c.writes.invariant.taken c.in-Ok.ensures.bytes;
  room = more_by_more _ _ _ _ _ c.writes.invariant.room c.in-Ok.ensures.room;
  later = search rules;
}
