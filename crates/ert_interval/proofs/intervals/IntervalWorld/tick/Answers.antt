use Rattle.ert_defs.specs.States.{state}
use Rattle.ert_interval.specs.Intervals.{AreIntervalsKept}
use Rattle.ert_world.specs.Worlds.{Seen}
use Rattle.ert_interval.proofs.{Plain.ticks_plain, Tables.all_kept}
use Rattle.ert_interval.proofs.intervals.IntervalWorld.tick.Goals as goal

pub returns-clause-kept : goal.returns-clause-kept
returns-clause-kept c =
    let b = c.tick.new.self in
    let a : Seen = record c.args.self.now.world { clock = b.clock } in
    let was = c.requires.kept in
    let kept : AreIntervalsKept a c.args.self.now.intervals.items =
    record { lone = was.lone; legal = was.legal; idle = was.idle; each = was.each; few = was.few; apart = was.apart } in
    let goes = c.tick.ensures.call in
    let grows = goes.lone kept.lone in
    all_kept a b _ c.args.self.now.intervals.items goes kept
    (ticks_plain a.settings 0 c.args.reading c.args.force c.tick.result (state a.settings a.history) grows.piece grows.made)
    goes.legal
