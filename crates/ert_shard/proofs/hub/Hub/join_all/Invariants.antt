use Rattle.std.proofs.Common.{◌≡◌, ℕ, length}
use Rattle.ert_shard.specs.Hubs.{AreOurs, ComeBack}
use Rattle.ert_shard.proofs.hub.Hub.join_all.Given as goal

abbrev pub invariant-loop-place : goal.invariant-loop-place
invariant-loop-place l = record {
  count : ℕ;
  back : ComeBack count l.fn.self l.fn.shards.items l.self l.shards.items;
  ours : AreOurs l.self l.shards.items;
  table : l.self.table ≡ l.fn.self.table;
  settings : l.self.settings ≡ l.fn.self.settings;
}

abbrev pub decreases-loop-place : goal.decreases-loop-place
decreases-loop-place l = length l.shards.items
