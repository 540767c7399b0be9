use Rattle.std.proofs.Common.{◌≡◌, length}
use Rattle.ert_laws.specs.Counts.{total}
use Rattle.ert_world.specs.Worlds.{world_sched}
use Rattle.ert_world.proofs.world.World.waiting.Given as goal

abbrev pub invariant-loop-sched : goal.invariant-loop-sched
invariant-loop-sched l = l.all ≡ total (λ w. length (world_sched l.fn.self w).expired) l.sched
