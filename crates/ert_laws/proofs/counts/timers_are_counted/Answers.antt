use Rattle.ert_laws.proofs.{CountTotals.deliveries_counted, Counting.{arms_counted, expiries_counted, orphans_counted, six_statuses}, ExpiredCounts.expired_wait}
use Rattle.ert_laws.proofs.counts.timers_are_counted.Goals as goal

pub returns-clause-arms : goal.returns-clause-arms
returns-clause-arms c = arms_counted

pub returns-clause-expiries : goal.returns-clause-expiries
returns-clause-expiries c = expiries_counted

pub returns-clause-orphans : goal.returns-clause-orphans
returns-clause-orphans c = orphans_counted

pub returns-clause-waits : goal.returns-clause-waits
returns-clause-waits c = expired_wait

pub returns-clause-deliveries : goal.returns-clause-deliveries
returns-clause-deliveries c = deliveries_counted

pub returns-clause-six : goal.returns-clause-six
returns-clause-six c = six_statuses
