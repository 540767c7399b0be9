-- Each is computed.
use Rattle.std.proofs.Common.{refl}
use Rattle.ert_program.specs.{Draws.{after, drawn, draw}, Steps.next_op}
use Rattle.ert_program.proofs.laws.first_draws.Goals as goal

pub returns-clause-state : goal.returns-clause-state
unfolding after
returns-clause-state c = refl

pub returns-clause-seed_1 : goal.returns-clause-seed_1
unfolding after drawn
returns-clause-seed_1 c = refl

pub returns-clause-choice_1 : goal.returns-clause-choice_1
unfolding after drawn
returns-clause-choice_1 c = refl

pub returns-clause-op_1 : goal.returns-clause-op_1
unfolding after drawn draw next_op
returns-clause-op_1 c = refl

pub returns-clause-seed_0 : goal.returns-clause-seed_0
unfolding after drawn
returns-clause-seed_0 c = refl

pub returns-clause-choice_0 : goal.returns-clause-choice_0
unfolding after drawn
returns-clause-choice_0 c = refl

pub returns-clause-op_0 : goal.returns-clause-op_0
unfolding after drawn draw next_op
returns-clause-op_0 c = refl
