use Rattle.ert_defs.specs.States.{state}
use Rattle.ert_table.proofs.{ReadActs.{slot_word_is, unpacked_shown}, SlotFacts.slots_kept}
use Rattle.ert_table.proofs.desk.Pass.see_timer.Goals as goal

pub timer_of-requires : goal.timer_of-requires
timer_of-requires c =
    let g = c.args.desk.now.settings in
    let front = c.args.self.now.seat.me.0.front in
    slot_word_is (state g front) c.args.wheel c.args.slot c.see_timer_as-word.result (slots_kept g front c.see_timer_as-word.ensures.legal)
    c.see_timer_as-word.ensures.word

pub returns-clause-shown : goal.returns-clause-shown
returns-clause-shown c =
    let g = c.args.desk.now.settings in
    let front = c.args.self.now.seat.me.0.front in
    unpacked_shown (state g front) c.args.wheel c.args.slot c.see_timer_as-word.result c.timer_of.result (slots_kept g front c.see_timer_as-word.ensures.legal)
    c.see_timer_as-word.ensures.word (λ zero. c.timer_of.ensures.idle.1 zero) c.timer_of.ensures.unpacks
