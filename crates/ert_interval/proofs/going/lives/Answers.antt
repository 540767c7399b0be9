use Rattle.ert_interval.proofs.Reading.{alive_tells}
use Rattle.ert_interval.proofs.going.lives.Goals as goal

pub returns-clause-value : goal.returns-clause-value
returns-clause-value c =
    alive_tells c.args.world.now c.is_alive.new.self c.args.process c.is_alive.result c.is_alive.ensures.call c.requires.lone
    c.is_alive.ensures.call.legal
