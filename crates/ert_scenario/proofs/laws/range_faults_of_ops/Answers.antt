use Rattle.ert_scenario.proofs.Faults.{out_of_range, label_again, no_other}
use Rattle.ert_scenario.proofs.laws.range_faults_of_ops.Goals as goal

pub returns-clause-out_of_range : goal.returns-clause-out_of_range
returns-clause-out_of_range c = out_of_range

pub returns-clause-label_again : goal.returns-clause-label_again
returns-clause-label_again c = label_again

pub returns-clause-no_other : goal.returns-clause-no_other
returns-clause-no_other c = no_other
