use Rattle.std.proofs.Common.{◌∙◌}
use Rattle.ert_tests.proofs.tests.shard_calls.cut_both.Goals as goal

pub returns-clause-last : goal.returns-clause-last
returns-clause-last g c =
    (c.cut-last.ensures.ours.0 ∙ c.cut-first.ensures.table, c.cut-last.ensures.ours.1 ∙ c.cut-first.ensures.settings)
