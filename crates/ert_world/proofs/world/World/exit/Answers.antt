use Rattle.ert_effects.specs.{Chains.Exits, Ways.Way}
use Rattle.ert_world.proofs.Alone.{goes_on}
use Rattle.ert_world.proofs.world.World.exit.Goals as goal

pub returns-clause-call : goal.returns-clause-call
returns-clause-call c =
    goes_on c.args.self.now c.exit.new.steps (λ (way : Way). Exits c.args.self.now.settings way 0 c.args.process c.exit.result) c.exit.ensures.call c.exit.ensures.legal c.exit.ensures.stays
