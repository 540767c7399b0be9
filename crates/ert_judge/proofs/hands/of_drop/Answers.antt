use Rattle.std.proofs.Common.{rules, sym, ◌∙◌}
use Rattle.ert_judge.proofs.hands.of_drop.Goals as goal

pub returns-then-has_exited-clause-none : goal.returns-then-has_exited-clause-none
returns-then-has_exited-clause-none c = (
  record { row = c.in-Some.row; first = sym c.first_expired.ensures ∙ c.in-Some.is; named = search rules },
  sym c.has_exited.ensures ∙ c.if-has_exited.true,
)
