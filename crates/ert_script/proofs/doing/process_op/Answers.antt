use Rattle.ert_script.proofs.Answered.{take_answered}
use Rattle.ert_script.proofs.doing.process_op.Goals as goal

pub returns-in-Ok-clause-answer : goal.returns-in-Ok-clause-answer
returns-in-Ok-clause-answer g c =
    rw c.in-Notify.is (record { does = λ ls of. c.in-Ok.ensures.call; fails = λ ls of. tt })

pub returns-in-Err-clause-answer : goal.returns-in-Err-clause-answer
returns-in-Err-clause-answer g c =
    rw c.in-Notify.is (record { does = λ ls of. tt; fails = λ ls of. c.in-Err.ensures.call })

pub returns-in-Receive-clause-answer : goal.returns-in-Receive-clause-answer
returns-in-Receive-clause-answer g c =
    let d = c.args.doer.now in
    rw c.in-Receive.is
    (rw c.taken.ensures
    (take_answered (g.D.Doer.settings d) (g.D.Doer.way d) (g.D.Doer.number d) c.args.timer (g.D.Doer.history d) _ c.in-Receive.process c.take.result c.take.ensures.call))

pub returns-in-Exit-clause-answer : goal.returns-in-Exit-clause-answer
returns-in-Exit-clause-answer g c =
    rw c.in-Exit.is (record { does = λ ls of. c.exit.ensures.call; fails = λ ls of. tt })

pub returns-in-Alive-clause-answer : goal.returns-in-Alive-clause-answer
returns-in-Alive-clause-answer g c =
    rw c.in-Alive.is (record { does = λ ls of. c.is_alive.ensures.call; fails = λ ls of. tt })

pub returns-in-Ok-monitor-clause-answer : goal.returns-in-Ok-monitor-clause-answer
returns-in-Ok-monitor-clause-answer g c =
    rw c.in-Monitor.is (record { does = λ ls of. c.in-Ok-monitor.ensures.call; fails = λ ls of. tt })

pub returns-in-Err-Full-clause-answer : goal.returns-in-Err-Full-clause-answer
returns-in-Err-Full-clause-answer g c =
    rw c.in-Monitor.is (record { does = λ ls of. rw c.in-Err-Full.field-0-is at c.in-Err-Full.ensures.call; fails = λ ls of. tt })

pub returns-in-Err-NoMemory-clause-answer : goal.returns-in-Err-NoMemory-clause-answer
returns-in-Err-NoMemory-clause-answer g c =
    rw c.in-Monitor.is (record { does = λ ls of. tt; fails = λ ls of. rw c.in-Err-NoMemory.field-0-is at c.in-Err-NoMemory.ensures.call })

pub returns-in-Demonitor-clause-answer : goal.returns-in-Demonitor-clause-answer
returns-in-Demonitor-clause-answer g c =
    rw c.in-Demonitor.is (record { does = λ ls of. c.demonitor.ensures.call; fails = λ ls of. tt })
