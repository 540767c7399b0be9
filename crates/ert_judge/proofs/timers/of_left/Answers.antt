use Rattle.std.proofs.Common.{◌≡◌, ◌∙◌}
use Rattle.ert_judge.proofs.Seen.{refuted}
use Rattle.ert_judge.proofs.timers.of_left.Goals as goal

pub returns-else-is_left-clause-some : goal.returns-else-is_left-clause-some
returns-else-is_left-clause-some c = λ c'. record {
  value = c.left-left.ensures c';
  differs = refuted (c.args.told ≡ c.left-left.result) c.is_left.result c.is_left.ensures c.if-is_left.false;
}

pub returns-then-is_left-clause-none : goal.returns-then-is_left-clause-none
returns-then-is_left-clause-none c = λ c'. c.is_left.ensures.0 c.if-is_left.true ∙ c.left-left.ensures c'
