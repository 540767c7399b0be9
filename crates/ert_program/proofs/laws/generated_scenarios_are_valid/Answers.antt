use Rattle.ert_program.specs.Steps.{first}
use Rattle.ert_program.proofs.Valid.{ops_in_range, as_many, are_ops}
use Rattle.ert_program.proofs.laws.generated_scenarios_are_valid.Goals as goal

pub returns-clause-ops : goal.returns-clause-ops
returns-clause-ops c = ops_in_range

pub returns-clause-labels : goal.returns-clause-labels
returns-clause-labels c = are_ops

pub returns-clause-count : goal.returns-clause-count
returns-clause-count c = λ seed n. as_many n (first seed)
