use Rattle.ert_laws.proofs.CountTotals.{counts_agree, counts_alone}
use Rattle.ert_laws.proofs.counts.statuses_are_counted.Goals as goal

pub returns-clause-counts : goal.returns-clause-counts
returns-clause-counts c = counts_agree

pub returns-clause-one : goal.returns-clause-one
returns-clause-one c = counts_alone
