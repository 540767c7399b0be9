use Rattle.std.proofs.Common.{sym, subst}
use Rattle.ert_unique.specs.Numbers.{AllDiffer}
use Rattle.ert_unique.proofs.FirstHolds.{below_differ}
use Rattle.ert_unique.proofs.uniques.Uniques.open.Goals as goal

pub returns-clause-apart : goal.returns-clause-apart
returns-clause-apart c = subst AllDiffer (sym c.in_ok-passes.ensures.numbers) (below_differ c.args.passes)
