use Rattle.ert_laws.proofs.Kept.{keeps_laws}
use Rattle.ert_laws.proofs.all_laws.legal_histories_keep_the_laws.Goals as goal

pub returns : goal.returns
returns c = keeps_laws
