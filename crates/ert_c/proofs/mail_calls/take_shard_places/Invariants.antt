use Rattle.std.proofs.Common.{◌≡◌, ◌+◌, ◌-◌, ◌≤◌, List, length}
use Rattle.ert_defs.specs.declared.mail.Mail.{Mail}
use Rattle.ert_shard.specs.{Receiving.CallerTakesMails, Shards.ShardSteps}
use Rattle.ert_c.specs.Mailing.{StandFirst}
use Rattle.ert_c.proofs.mail_calls.take_shard_places.Given as goal

abbrev pub invariant-loop-taken : goal.invariant-loop-taken
invariant-loop-taken l = record {
  took : List Mail;
  count : l.taken ≡ length took;
  few : l.taken ≤ length l.fn.mails;
  places : StandFirst took l.fn.mails l.mails;
  steps : ShardSteps l.fn.shard (λ way. CallerTakesMails l.fn.shard.settings way (l.fn.shard.share.number + 1) l.process took) l.shard;
}

abbrev pub decreases-loop-taken : goal.decreases-loop-taken
decreases-loop-taken l = length l.initial.mails - l.taken
