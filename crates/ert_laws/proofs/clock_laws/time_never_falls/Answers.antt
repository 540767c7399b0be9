use Rattle.ert_defs.proofs.Times.{time_rises}
use Rattle.ert_laws.proofs.Looks.{looks}
use Rattle.ert_laws.proofs.clock_laws.time_never_falls.Goals as goal

pub returns-clause-time : goal.returns-clause-time
returns-clause-time c = time_rises

pub returns-clause-first_looks : goal.returns-clause-first_looks
returns-clause-first_looks c = λ g h a checked legal. (looks g h a checked legal).low

pub returns-clause-last_looks : goal.returns-clause-last_looks
returns-clause-last_looks c = λ g h a checked legal. (looks g h a checked legal).high
