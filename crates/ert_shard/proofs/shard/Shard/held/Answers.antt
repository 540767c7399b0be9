use Rattle.std.proofs.Common.{◌≡◌, count_by, subst}
use Rattle.std.specs.Option.{is_some}
use Rattle.ert_shard.specs.Shards.{Owned}
use Rattle.ert_shard.proofs.shard.Shard.held.Goals as goal

pub returns : goal.returns
returns c = subst (λ (o : Owned). c.tally.result.rows ≡ count_by is_some o.wheel.keys) c.self.view_is c.tally.ensures.rows
