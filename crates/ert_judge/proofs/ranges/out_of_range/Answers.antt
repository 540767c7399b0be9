use Rattle.std.proofs.Common.{rules}
use Rattle.ert_judge.proofs.Highs.{out_of_range}
use Rattle.ert_judge.proofs.ranges.out_of_range.Goals as goal

pub returns-clause-some : goal.returns-clause-some
returns-clause-some c =
    out_of_range c.args.settings.now c.args.entry.now c.too_high.result c.too_high.ensures (search rules) (search rules)
