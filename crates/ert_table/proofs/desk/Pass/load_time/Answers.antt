use Rattle.std.proofs.Common.{sym, rules, FitsSigned}
use Rattle.std.specs.Int.{w64}
use Rattle.std.proofs.lemmas.Int.{to_z-of_z}
use Rattle.ert_defs.specs.States.{state}
use Rattle.ert_table.proofs.ClockActs.{time_word_is, time_is}
use Rattle.ert_table.proofs.desk.Pass.load_time.Goals as goal

pub time_of-requires : goal.time_of-requires
time_of-requires c =
    let desk = c.args.desk.now in
    let start : FitsSigned w64 desk.settings.start = search rules in
    let step = c.load_time_as-word.ensures in
    rw (to_z-of_z w64 desk.settings.start start)
    (time_word_is desk.settings c.load_time_as-word.new.self.seat.me.0.front c.load_time_as-word.result desk.checked step.step.legal step.word)

pub returns-clause-time : goal.returns-clause-time
returns-clause-time c =
    let desk = c.args.desk.now in
    let start : FitsSigned w64 desk.settings.start = search rules in
    let now : FitsSigned w64 c.time_of.result = search rules in
    let step = c.load_time_as-word.ensures in
    let front = c.load_time_as-word.new.self.seat.me.0.front in
    let unpacks = rw (to_z-of_z w64 desk.settings.start start) at c.time_of.ensures.unpacks in
    rw (to_z-of_z w64 c.time_of.result now)
    (unpacks (state desk.settings front).clock.now (time_is desk.settings front desk.checked step.step.legal) (sym step.word))
