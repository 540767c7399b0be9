use Rattle.std.proofs.Common.{◌≡◌}
use Rattle.ert_laws.specs.Counts.{deliveries, total}
use Rattle.ert_world.proofs.world.World.delivered.Given as goal

abbrev pub invariant-loop-process : goal.invariant-loop-process
invariant-loop-process l = l.all ≡ total (λ p. deliveries p l.fn.self.history) l.process
