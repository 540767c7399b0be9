use Rattle.ert_table.proofs.Peeks.{slot_named, generation_named, may_peek, peeks}
use Rattle.ert_table.proofs.desk.Pass.peek.Goals as goal

pub slot_place-place-requires : goal.slot_place-place-requires
slot_place-place-requires c = slot_named c.args.desk.now.settings c.args.timer c.requires.in_range

pub load_timer_as-word-requires-clause-may : goal.load_timer_as-word-requires-clause-may
load_timer_as-word-requires-clause-may c shown =
    may_peek c.args.desk.now.settings c.args.self.now.seat.me.0 c.args.by c.args.timer c.requires.held c.requires.user
    (slot_named c.args.desk.now.settings c.args.timer c.requires.in_range) shown

pub armed_deadline-requires : goal.armed_deadline-requires
armed_deadline-requires c = generation_named c.args.desk.now.settings c.args.timer c.requires.in_range

pub returns-clause-step : goal.returns-clause-step
returns-clause-step c =
    let read = c.load_timer_as-word.ensures in
    let told = c.armed_deadline.ensures in
    peeks c.args.desk.now.settings c.args.self.now.seat.me.0 c.args.by c.args.timer c.load_timer_as-word.result c.armed_deadline.result
    c.load_timer_as-word.new.self.seat.me.0 read.step read.word told
