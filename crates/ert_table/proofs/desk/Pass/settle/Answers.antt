use Rattle.std.proofs.Common.{ap, ◌∙◌}
use Rattle.ert_defs.specs.{States.state, Words.timer_word}
use Rattle.ert_table.proofs.{Hits.hit_slot, SlotFacts.timer_is}
use Rattle.ert_table.proofs.desk.Pass.settle.Goals as goal

pub slot_place-place-requires : goal.slot_place-place-requires
slot_place-place-requires c =
    let g = c.args.desk.now.settings in
    hit_slot g (state g c.args.self.now.seat.me.0.front) c.args.by c.args.timer c.args.deadline c.args.how c.requires.may.keeps

pub timer_word-word-requires : goal.timer_word-word-requires
timer_word-word-requires c =
    let pass = c.args.self.now in
    timer_is c.args.desk.now.settings pass.seat.me.0 c.args.timer c.args.deadline c.requires.belongs.named pass.legal c.requires.row

pub settle_as-requires-clause-word : goal.settle_as-requires-clause-word
settle_as-requires-clause-word c =
    c.timer_word-word.ensures ∙ ap (λ x. timer_word x c.args.deadline c.args.timer.generation) c.status_before.ensures
