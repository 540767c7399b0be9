use Rattle.ert_ops.proofs.Fronts.{first_lines}
use Rattle.ert_ops.proofs.laws.first_lines.Goals as goal

pub returns : goal.returns
returns c = first_lines
