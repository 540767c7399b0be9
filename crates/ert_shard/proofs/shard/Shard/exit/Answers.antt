use Rattle.std.proofs.Common.{◌+◌, [], Bool, true, subst}
use Rattle.ert_defs.specs.declared.entry.Actor.TheVariants.{Caller}
use Rattle.ert_effects.specs.{Chains.SweepsWheel, WheelCalls.MarksExit}
use Rattle.ert_shard.proofs.Stepped.{steps_then}
use Rattle.ert_shard.proofs.shard.Shard.exit.Goals as goal
use Rattle.ert_shard.specs.Shards.{ShardSteps, ShardBy}

pub returns : goal.returns
returns c =
    let a = c.args.self.now in
    let b = c.mark.new.self in
    steps_then a b c.sweep.new.self (λ g n way. way [] (MarksExit g (Caller (n + 1)) c.args.process true)) (λ g n way. SweepsWheel g way (n + 1) c.args.process n)
    (subst (λ (marked : Bool). ShardSteps a (ShardBy a (λ g. MarksExit g (Caller (a.share.number + 1)) c.args.process marked)) b) c.if-not-mark.false c.mark.ensures.call)
    c.sweep.ensures
