use Rattle.ert_effects.specs.Chains.{ServesMany}
use Rattle.ert_shard.specs.Shards.{ShardSteps}
use Rattle.ert_shard.proofs.shard.Shard.serve_all.Given as goal

abbrev pub invariant-loop-served : goal.invariant-loop-served
invariant-loop-served l = record {
  steps : ShardSteps l.fn.self (λ way. ServesMany l.fn.self.settings way l.fn.self.share.number l.served) l.self;
}
