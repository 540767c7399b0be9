use Rattle.ert_unique.specs.Passes.{BelongsToUniques}
use Rattle.ert_tests.proofs.tests.uniques.passes_draw_in_turn.Given as goal

abbrev pub invariant-draws : goal.invariant-draws
invariant-draws g l = record {
  one : BelongsToUniques l.uniques l.one;
  two : BelongsToUniques l.uniques l.two;
}
