use Rattle.ert_defs.specs.States.{state}
use Rattle.ert_interval.proofs.{Plain.takes_plain, Tables.all_kept}
use Rattle.ert_interval.proofs.intervals.IntervalWorld.take.Goals as goal

pub returns-clause-kept : goal.returns-clause-kept
returns-clause-kept c =
    let a = c.args.self.now.world in
    let b = c.take.new.self in
    let goes = c.take.ensures.call in
    let grows = goes.lone c.requires.kept.lone in
    all_kept a b _ c.args.self.now.intervals.items goes c.requires.kept
    (takes_plain a.settings 0 c.args.process c.take.result (state a.settings a.history) grows.piece grows.made)
    c.take.ensures.call.legal
