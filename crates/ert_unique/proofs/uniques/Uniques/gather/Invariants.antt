use Rattle.std.proofs.Common.{◌≡◌, ◌+◌, ◌++◌, All, [], vec_len}
use Rattle.ert_unique.specs.{Numbers.IsRearranged, Passes.{passes_of, BelongsToUniques, draws_together}}
use Rattle.ert_unique.proofs.uniques.Uniques.gather.Given as goal

abbrev pub invariant-loop-pass : goal.invariant-loop-pass
invariant-loop-pass l = record {
  table : l.seat.table_id ≡ l.self.table.shared.table_id;
  bare : l.seat.me.1 ≡ [];
  opened : l.seat.me.0.passes ≡ passes_of l.self;
  share : l.seat.me.0.share + vec_len l.passes ≡ passes_of l.self;
  belong : All (BelongsToUniques l.self) l.passes.items;
  draws : IsRearranged (draws_together l.fn.passes.items) (draws_together l.passes.items ++ l.seat.me.0.draws);
}

abbrev pub decreases-loop-pass : goal.decreases-loop-pass
decreases-loop-pass l = vec_len l.passes
