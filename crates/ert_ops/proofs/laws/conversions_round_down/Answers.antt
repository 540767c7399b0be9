use Rattle.ert_ops.proofs.Floors.{rounded_down}
use Rattle.ert_ops.proofs.laws.conversions_round_down.Goals as goal

pub returns : goal.returns
returns c = rounded_down
