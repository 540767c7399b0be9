use Rattle.ert_judge.proofs.Seen.{outside_illegal, why_in, legal_in}
use Rattle.ert_judge.proofs.finding.reason.Goals as goal

pub returns-in-Some-clause-legal : goal.returns-in-Some-clause-legal
returns-in-Some-clause-legal c = λ g h stands.
    outside_illegal g h c.args.judge.now c.args.entry.now c.in-Some.reason c.in-Some.ensures.some stands

pub returns-in-None-clause-legal : goal.returns-in-None-clause-legal
returns-in-None-clause-legal c = λ g h stands.
    legal_in g h c.args.judge.now c.args.entry.now c.broken.result c.in-None.ensures.none
    (why_in g h c.args.judge.now c.args.entry.now c.broken.result c.in-None.ensures.none c.broken.ensures.some stands)
    c.broken.ensures.none stands
