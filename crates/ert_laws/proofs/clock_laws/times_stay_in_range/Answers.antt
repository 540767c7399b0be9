use Rattle.ert_defs.proofs.Times.{state_in_range, state_sum_fits}
use Rattle.ert_laws.proofs.clock_laws.times_stay_in_range.Goals as goal

pub returns-clause-start : goal.returns-clause-start
returns-clause-start c = λ g h checked legal. (state_in_range g h checked legal).low

pub returns-clause-end : goal.returns-clause-end
returns-clause-end c = λ g h checked legal. (state_in_range g h checked legal).high

pub returns-clause-sums : goal.returns-clause-sums
returns-clause-sums c = state_sum_fits
