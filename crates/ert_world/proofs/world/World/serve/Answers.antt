use Rattle.ert_effects.specs.{Chains.Serves, Ways.Way}
use Rattle.ert_world.proofs.Alone.{goes_on}
use Rattle.ert_world.proofs.world.World.serve.Goals as goal

pub returns-clause-call : goal.returns-clause-call
returns-clause-call c =
    goes_on c.args.self.now c.serve.new.steps (λ (way : Way). Serves c.args.self.now.settings way c.args.sched c.serve.result) c.serve.ensures.call c.serve.ensures.legal c.serve.ensures.stays
