use Rattle.ert_table.proofs.Armed.{later_tells, later_tells_none}
use Rattle.ert_table.proofs.timer_words.deadline_of_later.Goals as goal

pub returns-then-word-generation : goal.returns-then-word-generation
returns-then-word-generation c =
    later_tells c.args.word c.args.generation (record { low = c.requires.low; high = c.requires.high }) c.if-word-generation.true

pub returns-else-word-generation : goal.returns-else-word-generation
returns-else-word-generation c =
    later_tells_none c.args.word c.args.generation (record { low = c.requires.low; high = c.requires.high }) c.if-word-generation.false
