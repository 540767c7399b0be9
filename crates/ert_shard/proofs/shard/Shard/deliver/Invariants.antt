use Rattle.std.proofs.Common.{◌≡◌, ◌⊎◌, ◌≤◌, ◌+◌, List, length}
use Rattle.ert_effects.specs.{Chains.{puts, drops}, declared.answers.Handed.Handed}
use Rattle.ert_shard.proofs.Deliveries.{Handing}
use Rattle.ert_shard.specs.Turning.{shard_expired}
use Rattle.ert_shard.proofs.shard.Shard.deliver.Given as goal
use Rattle.ert_defs.specs.declared.settings.TheConstants.{MOST_SLOTS}

abbrev pub invariant-loop-expired : goal.invariant-loop-expired
invariant-loop-expired l =
    record {
      hows : List Handed;
      handing : Handing l.fn.self hows l.self;
      put_is : l.put ≡ puts hows;
      dropped_is : l.dropped ≡ drops hows;
      few : (l.put + l.dropped ≡ 0) ⊎ ((l.put + l.dropped) + length (shard_expired l.self) ≤ MOST_SLOTS);
    }

abbrev pub decreases-loop-expired : goal.decreases-loop-expired
decreases-loop-expired l = length (shard_expired l.self)
