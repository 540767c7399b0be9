use Rattle.std.proofs.Common.{◌≡◌, ◌+◌, ◌-◌, ◌≤◌, ◌++◌, List, length, vec_len}
use Rattle.std.specs.Vec.{vec_capacity}
use Rattle.ert_defs.specs.declared.mail.Mail.{Mail}
use Rattle.ert_shard.specs.{Receiving.CallerTakesMails, Shards.ShardSteps}
use Rattle.ert_shard.proofs.shard.Shard.take_some.Given as goal

abbrev pub invariant-loop-taken : goal.invariant-loop-taken
invariant-loop-taken l = record {
  took : List Mail;
  put : l.mails.items ≡ l.fn.mails.items ++ took;
  count : l.taken ≡ length took;
  few : l.taken ≤ l.most;
  room : vec_len l.mails + l.most ≤ vec_capacity l.mails + l.taken;
  steps : ShardSteps l.fn.self (λ way. CallerTakesMails l.fn.self.settings way (l.fn.self.share.number + 1) l.process took) l.self;
}

abbrev pub decreases-loop-taken : goal.decreases-loop-taken
decreases-loop-taken l = l.most - l.taken
