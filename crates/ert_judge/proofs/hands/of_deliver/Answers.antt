use Rattle.std.proofs.Common.{rules, sym, ◌∙◌}
use Rattle.ert_judge.proofs.hands.of_deliver.Goals as goal

pub returns-then-eq-clause-none : goal.returns-then-eq-clause-none
returns-then-eq-clause-none c = (
  record { row = c.in-Some.row; first = sym c.first_expired.ensures ∙ c.in-Some.is; named = search rules },
  search rules,
)
