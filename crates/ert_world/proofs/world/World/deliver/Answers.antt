use Rattle.ert_effects.specs.{Chains.Delivers, Ways.Way}
use Rattle.ert_world.proofs.Alone.{goes_on}
use Rattle.ert_world.proofs.world.World.deliver.Goals as goal

pub returns-clause-call : goal.returns-clause-call
returns-clause-call c =
    goes_on c.args.self.now c.deliver.new.steps (λ (way : Way). Delivers c.args.self.now.settings way c.args.sched c.deliver.result) c.deliver.ensures.call c.deliver.ensures.legal c.deliver.ensures.stays
