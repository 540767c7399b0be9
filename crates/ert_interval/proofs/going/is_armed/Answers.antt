use Rattle.ert_interval.proofs.Reading.{read_tells, told_by}
use Rattle.ert_interval.proofs.going.is_armed.Goals as goal

pub returns-clause-value : goal.returns-clause-value
returns-clause-value c =
    told_by _ c.read_timer-left.result c.is_some.result
    (read_tells c.args.world.now c.read_timer-left.new.self c.args.interval.now c.read_timer-left.result c.read_timer-left.ensures.call
    c.requires.lone c.read_timer-left.ensures.call.legal c.requires.legal c.requires.kept)
    c.is_some.ensures

pub returns-clause-reads : goal.returns-clause-reads
returns-clause-reads c = record { left = c.read_timer-left.result; armed_is = c.is_some.ensures; call = c.read_timer-left.ensures.call }
