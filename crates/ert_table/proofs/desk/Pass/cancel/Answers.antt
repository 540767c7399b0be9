use Rattle.std.proofs.Common.{◌≡◌, ℕ, Option, Some, true, false, rules, sym, subst}
use Rattle.ert_defs.specs.States.{state}
use Rattle.ert_table.specs.{Held.is_held, Peeking.HasDeadline}
use Rattle.ert_table.proofs.Peeks.{slot_named, generation_named, may_peek, may_cancel, peeks, cancels_none, cancels_found}
use Rattle.ert_table.proofs.desk.Pass.cancel.Goals as goal

pub slot_place-place-requires : goal.slot_place-place-requires
slot_place-place-requires c = slot_named c.args.desk.now.settings c.args.timer c.requires.in_range

pub load_timer_as-word-requires-clause-may : goal.load_timer_as-word-requires-clause-may
load_timer_as-word-requires-clause-may c shown =
    may_peek c.args.desk.now.settings c.args.self.now.seat.me.0 c.args.by c.args.timer c.requires.held c.requires.user
    (slot_named c.args.desk.now.settings c.args.timer c.requires.in_range) shown

pub armed_deadline-requires : goal.armed_deadline-requires
armed_deadline-requires c = generation_named c.args.desk.now.settings c.args.timer c.requires.in_range

pub settle_as-requires-clause-row : goal.settle_as-requires-clause-row
settle_as-requires-clause-row c =
    let g = c.args.desk.now.settings in
    let w = c.load_timer_as-word.new.self.seat.me.0 in
    let read = c.load_timer_as-word.ensures in
    let told = c.armed_deadline.ensures in
    let peek = peeks g c.args.self.now.seat.me.0 c.args.by c.args.timer c.load_timer_as-word.result c.armed_deadline.result w
    read.step read.word told in
    let some : c.armed_deadline.result ≡ Some c.in_ok-deadline.deadline = search rules in
    subst (λ (found : Option ℕ). HasDeadline (state g w.front) c.args.timer found) some peek.row

pub settle_as-requires-clause-may : goal.settle_as-requires-clause-may
settle_as-requires-clause-may c =
    let step = c.load_timer_as-word.ensures.step in
    may_cancel c.args.desk.now.settings c.load_timer_as-word.new.self.seat.me.0 c.args.by c.args.timer
    (subst (λ actors. is_held actors c.args.by ≡ true) (sym step.actors) c.requires.held) c.requires.user
    (slot_named c.args.desk.now.settings c.args.timer c.requires.in_range) c.in_ok-deadline.deadline

pub returns-in_err-deadline-clause-steps : goal.returns-in_err-deadline-clause-steps
returns-in_err-deadline-clause-steps c =
    let g = c.args.desk.now.settings in
    let v = c.args.self.now.seat.me.0 in
    let w = c.load_timer_as-word.new.self.seat.me.0 in
    let read = c.load_timer_as-word.ensures in
    let told = c.armed_deadline.ensures in
    let peek = peeks g v c.args.by c.args.timer c.load_timer_as-word.result c.armed_deadline.result w
    read.step read.word told in
    cancels_none g v c.args.by c.args.timer c.armed_deadline.result c.from_residual.result w peek (search rules) (search rules)

pub returns-then-settle_as-clause-steps : goal.returns-then-settle_as-clause-steps
returns-then-settle_as-clause-steps c =
    let g = c.args.desk.now.settings in
    let v = c.args.self.now.seat.me.0 in
    let w = c.load_timer_as-word.new.self.seat.me.0 in
    let read = c.load_timer_as-word.ensures in
    let told = c.armed_deadline.ensures in
    let peek = peeks g v c.args.by c.args.timer c.load_timer_as-word.result c.armed_deadline.result w
    read.step read.word told in
    cancels_found g v c.args.by c.args.timer c.armed_deadline.result c.in_ok-deadline.deadline w true c.settle_as.new.self.seat.me.0
    peek (search rules) c.if-settle_as.ensures.step

pub returns-else-settle_as-clause-steps : goal.returns-else-settle_as-clause-steps
returns-else-settle_as-clause-steps c =
    let g = c.args.desk.now.settings in
    let v = c.args.self.now.seat.me.0 in
    let w = c.load_timer_as-word.new.self.seat.me.0 in
    let read = c.load_timer_as-word.ensures in
    let told = c.armed_deadline.ensures in
    let peek = peeks g v c.args.by c.args.timer c.load_timer_as-word.result c.armed_deadline.result w
    read.step read.word told in
    cancels_found g v c.args.by c.args.timer c.armed_deadline.result c.in_ok-deadline.deadline w false c.settle_as.new.self.seat.me.0
    peek (search rules) c.if-settle_as.ensures.step
