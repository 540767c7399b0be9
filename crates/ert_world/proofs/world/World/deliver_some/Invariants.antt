use Rattle.std.proofs.Common.{◌≤◌, ◌+◌, ◌-◌}
use Rattle.ert_world.proofs.{Chained.HasHanded, MoreLeft.the_way}
use Rattle.ert_world.specs.{Stepping.Stays, Worlds.{Seen, KeepRows}}
use Rattle.ert_world.proofs.world.World.deliver_some.Given as goal

abbrev pub invariant-hands : goal.invariant-hands
invariant-hands l =
    record {
      handed : HasHanded (λ (w : Seen). w.settings) (λ (w : Seen). w.history) (λ (w : Seen). w.next) the_way l.fn.sched l.put l.dropped l.fn.self l.self;
      few : l.put + l.dropped ≤ l.most;
      stays : Stays l.fn.self l.self;
      kept : KeepRows l.fn.self l.self;
    }

abbrev pub decreases-hands : goal.decreases-hands
decreases-hands l = l.most - (l.put + l.dropped)
