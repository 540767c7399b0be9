use Rattle.ert_laws.proofs.Since.{rounds_begun}
use Rattle.ert_laws.proofs.clock_laws.rounds_have_begun.Goals as goal

pub returns : goal.returns
returns c = rounds_begun
