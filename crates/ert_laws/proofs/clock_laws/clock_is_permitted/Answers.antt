use Rattle.ert_laws.proofs.Permissions.{permitted}
use Rattle.ert_laws.proofs.clock_laws.clock_is_permitted.Goals as goal

pub returns : goal.returns
returns c = permitted
