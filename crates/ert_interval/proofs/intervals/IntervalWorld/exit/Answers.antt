use Rattle.ert_interval.proofs.{Plain.exits_plain, Tables.all_kept}
use Rattle.ert_interval.proofs.intervals.IntervalWorld.exit.Goals as goal

pub returns-clause-kept : goal.returns-clause-kept
returns-clause-kept c =
    let a = c.args.self.now.world in
    let b = c.exit.new.self in
    let goes = c.exit.ensures.call in
    let grows = goes.lone c.requires.kept.lone in
    all_kept a b _ c.args.self.now.intervals.items goes c.requires.kept
    (exits_plain a.settings c.args.process c.exit.result a.history grows.piece grows.made)
    c.exit.ensures.call.legal
