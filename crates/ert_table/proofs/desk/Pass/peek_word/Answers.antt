use Rattle.std.proofs.Common.{sym, subst}
use Rattle.ert_table.specs.Renewals.{PeeksWord}
use Rattle.ert_table.proofs.Peeks.{slot_named, generation_named, may_peek, peeks_unarmed, peeks_armed}
use Rattle.ert_table.proofs.desk.Pass.peek_word.Goals as goal

pub load_timer_as-word-requires-clause-may : goal.load_timer_as-word-requires-clause-may
load_timer_as-word-requires-clause-may c shown =
    may_peek c.args.desk.now.settings c.args.self.now.seat.me.0 c.args.by c.args.timer c.requires.held c.requires.user
    (slot_named c.args.desk.now.settings c.args.timer c.requires.in_range) shown

pub armed_deadline-requires : goal.armed_deadline-requires
armed_deadline-requires c = generation_named c.args.desk.now.settings c.args.timer c.requires.in_range

pub returns-in_err-_deadline-clause-step : goal.returns-in_err-_deadline-clause-step
returns-in_err-_deadline-clause-step c =
    let g = c.args.desk.now.settings in
    let read = c.load_timer_as-word.ensures in
    let v = c.args.self.now.seat.me.0 in
    let w = c.load_timer_as-word.new.self.seat.me.0 in
    subst (λ o. PeeksWord g v c.args.by c.args.timer o w) (sym c.from_residual.ensures)
    (peeks_unarmed g v c.args.by c.args.timer c.load_timer_as-word.result c.armed_deadline.result w c.in_err-_deadline.was
    read.step read.word c.armed_deadline.ensures)

pub returns-clause-step : goal.returns-clause-step
returns-clause-step c =
    let read = c.load_timer_as-word.ensures in
    peeks_armed c.args.desk.now.settings c.args.self.now.seat.me.0 c.args.by c.args.timer c.load_timer_as-word.result c.armed_deadline.result
    c.in_ok-_deadline._deadline c.load_timer_as-word.new.self.seat.me.0 c.in_ok-_deadline.was read.step read.word c.armed_deadline.ensures
