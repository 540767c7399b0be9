use Rattle.ert_table.proofs.Peeks.{slot_named, may_cancel}
use Rattle.ert_table.proofs.desk.Pass.cancel_word.Goals as goal

pub settle_as-requires-clause-may : goal.settle_as-requires-clause-may
settle_as-requires-clause-may c =
    may_cancel c.args.desk.now.settings c.args.self.now.seat.me.0 c.args.by c.args.timer c.requires.held c.requires.user
    (slot_named c.args.desk.now.settings c.args.timer c.requires.in_range) c.deadline-deadline.result
