use Rattle.std.proofs.Common.{◌≡◌, ◌≤◌, ◌+◌, ◌-◌, List}
use Rattle.ert_effects.specs.{Chains.{puts, drops}, declared.answers.Handed.Handed}
use Rattle.ert_shard.proofs.Deliveries.{Handing}
use Rattle.ert_world.specs.Worlds.{KeepsRows}
use Rattle.ert_shard.proofs.shard.Shard.deliver_some.Given as goal

abbrev pub invariant-hands : goal.invariant-hands
invariant-hands l =
    record {
      hows : List Handed;
      handing : Handing l.fn.self hows l.self;
      put_is : l.put ≡ puts hows;
      dropped_is : l.dropped ≡ drops hows;
      few : l.put + l.dropped ≤ l.most;
      kept : KeepsRows l.fn.self.wheel l.self.wheel;
    }

abbrev pub decreases-hands : goal.decreases-hands
decreases-hands l = l.most - (l.put + l.dropped)
