use Rattle.std.proofs.Common.{ap, ◌∙◌}
use Rattle.ert_world.specs.Worlds.{Seen}
use Rattle.ert_world.proofs.world.World.into_parts.Goals as goal

pub returns-clause-tidy : goal.returns-clause-tidy
returns-clause-tidy c = c.self.invariant.sound.tidy (ap (λ (w : Seen). w.next) c.self.view_is ∙ c.requires)
