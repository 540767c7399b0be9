use Rattle.ert_wheel.proofs.MarkBits.{no_mark, sums_none}
use Rattle.ert_wheel.proofs.marks.Marks.new.Goals as goal

pub returns : goal.returns
returns c = λ bucket low. no_mark bucket low

pub invariant_of-result : goal.invariant_of-result
invariant_of-result c = sums_none
