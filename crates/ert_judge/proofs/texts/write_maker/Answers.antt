use Rattle.ert_judge.proofs.texts.write_maker.Goals as goal

pub returns-in-Clock : goal.returns-in-Clock
returns-in-Clock c = rw c.in-Clock.is c.write.ensures.bytes

pub returns-in-Scheduler : goal.returns-in-Scheduler
returns-in-Scheduler c = rw c.in-Scheduler.is c.write-in-Scheduler.ensures.bytes

pub returns-in-AnyCaller : goal.returns-in-AnyCaller
returns-in-AnyCaller c = rw c.in-AnyCaller.is c.write-in-AnyCaller.ensures.bytes

pub returns-in-User : goal.returns-in-User
returns-in-User c = rw c.in-User.is c.write-in-User.ensures.bytes

pub returns-in-CallerOr : goal.returns-in-CallerOr
returns-in-CallerOr c = rw c.in-CallerOr.is c.write-in-CallerOr.ensures.bytes

pub returns-in-Reader : goal.returns-in-Reader
returns-in-Reader c = rw c.in-Reader.is c.write-in-Reader.ensures.bytes
