use Rattle.ert_defs.proofs.Locality.{locality}
use Rattle.ert_defs.proofs.laws.entries_are_local.Goals as goal

pub returns : goal.returns
returns c = locality
