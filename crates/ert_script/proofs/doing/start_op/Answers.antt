use Rattle.ert_script.proofs.Answered.{start_answered, send_after_answered}
use Rattle.ert_script.proofs.doing.start_op.Goals as goal

pub returns-in-Start-clause-answer : goal.returns-in-Start-clause-answer
returns-in-Start-clause-answer g c =
    let d = c.args.doer.now in
    let op = c.in-Start in
    rw c.in-Start.is
    (rw c.start_told.ensures
    (start_answered (g.D.Doer.settings d) (g.D.Doer.way d) (g.D.Doer.number d) c.args.timer (g.D.Doer.history d) _ op.label op.wheel op.when op.dest op.msg c.start.result c.start.ensures.memory
    c.start.ensures.call))

pub returns-in-SendAfter-clause-answer : goal.returns-in-SendAfter-clause-answer
returns-in-SendAfter-clause-answer g c =
    let d = c.args.doer.now in
    let op = c.in-SendAfter in
    rw c.in-SendAfter.is
    (rw c.start_told-in-SendAfter.ensures
    (send_after_answered (g.D.Doer.settings d) (g.D.Doer.way d) (g.D.Doer.number d) c.args.timer (g.D.Doer.history d) _ op.label op.wheel op.when op.dest op.msg c.start-in-SendAfter.result c.start-in-SendAfter.ensures.memory
    c.start-in-SendAfter.ensures.call))
