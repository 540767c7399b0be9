use Rattle.std.proofs.Common.{sym, ◌∙◌}
use Rattle.ert_shard.proofs.Served.{held_before}
use Rattle.ert_shard.proofs.shard.Shard.hold.Goals as goal

pub returns-in-Some-clause-call : goal.returns-in-Some-clause-call
returns-in-Some-clause-call c =
    held_before c.args.self.now c.in-Some.request c.keeps_laws.ensures.legal (sym c.in-Some.is ∙ c.hand.ensures)
