use Rattle.std.proofs.Common.{◌≡◌, ◌+◌, ◌-◌, ◌≤◌, ◌++◌, List, length, vec_len}
use Rattle.std.specs.Vec.{vec_capacity}
use Rattle.ert_defs.specs.declared.mail.Mail.{Mail}
use Rattle.ert_world.specs.{Mailing.TakesMails, Worlds.Goes}
use Rattle.ert_world.proofs.world.World.take_some.Given as goal

abbrev pub invariant-loop-taken : goal.invariant-loop-taken
invariant-loop-taken l = record {
  took : List Mail;
  put : l.mails.items ≡ l.fn.mails.items ++ took;
  count : l.taken ≡ length took;
  few : l.taken ≤ l.most;
  room : vec_len l.mails + l.most ≤ vec_capacity l.mails + l.taken;
  goes : Goes l.fn.self (λ way. TakesMails l.fn.self.settings way l.process took) l.self;
}

abbrev pub decreases-loop-taken : goal.decreases-loop-taken
decreases-loop-taken l = l.most - l.taken
