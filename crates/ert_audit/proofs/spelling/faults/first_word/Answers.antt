use Rattle.ert_audit.proofs.Left.{all_from, cut_word, free_word, cut_more, free_more}
use Rattle.ert_audit.proofs.spelling.faults.first_word.Goals as goal

pub returns-in-Some-clause-word : goal.returns-in-Some-clause-word
returns-in-Some-clause-word c =
    cut_word _ c.in-Some.word.now c.in-Some.field-0-1.now (rw (all_from c.args.line.now c.args.before) at c.in-Some.ensures.some)

pub returns-in-Some-clause-more : goal.returns-in-Some-clause-more
returns-in-Some-clause-more c =
    cut_more c.args.line.now c.args.before c.in-Some.word.now c.in-Some.field-0-1.now c.requires
    (rw (all_from c.args.line.now c.args.before) at c.in-Some.ensures.some)

pub returns-in-None-clause-word : goal.returns-in-None-clause-word
returns-in-None-clause-word c =
    rw (all_from c.args.line.now c.args.before)
    (free_word _ (rw (all_from c.args.line.now c.args.before) at c.in-None.ensures.none))

pub returns-in-None-clause-more : goal.returns-in-None-clause-more
returns-in-None-clause-more c =
    rw (all_from c.args.line.now c.args.before)
    (free_more c.args.line.now c.args.before c.requires (rw (all_from c.args.line.now c.args.before) at c.in-None.ensures.none))
