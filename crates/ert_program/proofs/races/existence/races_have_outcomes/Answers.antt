-- Each race has an outcome.

use Rattle.ert_program.proofs.OneByOne.{races_have_outcomes}
use Rattle.ert_program.proofs.races.existence.races_have_outcomes.Goals as goal

pub returns : goal.returns
returns c = races_have_outcomes
