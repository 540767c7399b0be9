use Rattle.ert_effects.specs.{Chains.Turns, Ways.Way}
use Rattle.ert_world.proofs.Alone.{goes_on}
use Rattle.ert_world.proofs.world.World.turn.Goals as goal

pub returns-clause-call : goal.returns-clause-call
returns-clause-call c =
    goes_on c.args.self.now c.turn.new.steps (λ (way : Way). Turns c.args.self.now.settings way c.args.sched c.turn.result) c.turn.ensures.call c.turn.ensures.legal c.turn.ensures.stays
