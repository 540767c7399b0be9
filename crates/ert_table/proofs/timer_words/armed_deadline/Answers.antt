use Rattle.ert_table.proofs.Armed.{of_first, of_later}
use Rattle.ert_table.proofs.timer_words.armed_deadline.Goals as goal

pub deadline_of_first-requires-clause-low : goal.deadline_of_first-requires-clause-low
deadline_of_first-requires-clause-low c = (of_first c.args.generation c.requires c.if-generation-le-USES_OF_ROUND.true).low

pub deadline_of_later-requires-clause-low : goal.deadline_of_later-requires-clause-low
deadline_of_later-requires-clause-low c = (of_later c.args.generation c.requires c.if-generation-le-USES_OF_ROUND.false).low

pub deadline_of_later-requires-clause-high : goal.deadline_of_later-requires-clause-high
deadline_of_later-requires-clause-high c = (of_later c.args.generation c.requires c.if-generation-le-USES_OF_ROUND.false).high
