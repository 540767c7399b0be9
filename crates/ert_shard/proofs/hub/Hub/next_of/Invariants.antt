use Rattle.std.proofs.Common.{ℕ, ◌<◌, slice_index_or}
use Rattle.ert_shard.specs.{Hubs.IsLastOut, Shards.Owned}
use Rattle.ert_shard.proofs.hub.Hub.next_of.Given as goal

abbrev pub invariant-loop-place : goal.invariant-loop-place
invariant-loop-place l = (k : ℕ) (d : Owned) → k < l.place → IsLastOut l.fn.self (slice_index_or l.fn.shards k d) → ⊥
