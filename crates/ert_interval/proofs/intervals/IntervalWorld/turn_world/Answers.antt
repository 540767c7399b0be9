use Rattle.ert_interval.proofs.{Plain.turns_plain, Reading.piece_legal, Tables.all_kept}
use Rattle.ert_interval.proofs.intervals.IntervalWorld.turn_world.Goals as goal

pub returns-clause-kept : goal.returns-clause-kept
returns-clause-kept c =
    let a = c.args.self.now.world in
    let b = c.turn.new.self in
    let goes = c.turn.ensures.call in
    let legal = c.turn.ensures.call.legal in
    let grows = goes.lone c.requires.kept.lone in
    all_kept a b _ c.args.self.now.intervals.items goes c.requires.kept
    (turns_plain a.settings c.args.sched c.turn.result a.history grows.piece c.requires.kept.idle
    (piece_legal a b grows.piece goes.settings grows.grown legal) grows.made)
    legal
