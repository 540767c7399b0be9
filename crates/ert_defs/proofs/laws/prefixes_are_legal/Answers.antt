use Rattle.ert_defs.proofs.Runs.{legal_first, legal_parts, legal_one_more, state-append}
use Rattle.ert_defs.specs.States.{opening}
use Rattle.ert_defs.proofs.laws.prefixes_are_legal.Goals as goal

pub returns-clause-prefixes : goal.returns-clause-prefixes
returns-clause-prefixes c g = legal_first g (opening g)

pub returns-clause-parts : goal.returns-clause-parts
returns-clause-parts c = legal_parts

pub returns-clause-one_more : goal.returns-clause-one_more
returns-clause-one_more c = legal_one_more

pub returns-clause-states : goal.returns-clause-states
returns-clause-states c = state-append
