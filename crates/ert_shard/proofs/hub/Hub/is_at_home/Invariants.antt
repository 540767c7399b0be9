use Rattle.std.proofs.Common.{ℕ, ◌<◌, ◌-◌}
use Rattle.ert_shard.specs.Hubs.{AreKnown}
use Rattle.ert_shard.proofs.hub.Hub.is_at_home.Given as goal

abbrev pub invariant-loop-wheel : goal.invariant-loop-wheel
invariant-loop-wheel l = (w : ℕ) → w < l.wheel → AreKnown l.fn.self w 0 (l.fn.self.first - l.fn.processes)
