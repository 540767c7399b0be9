use Rattle.ert_laws.proofs.LookBack.{look_back}
use Rattle.ert_laws.proofs.clock_laws.clock_looks_back.Goals as goal

pub returns : goal.returns
returns c = look_back
