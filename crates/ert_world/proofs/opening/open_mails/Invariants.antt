use Rattle.std.proofs.Common.{◌≤◌}
use Rattle.ert_mail.specs.Mailboxes.{IsEmpty}
use Rattle.ert_world.specs.Openings.{AreNew}
use Rattle.ert_world.proofs.opening.open_mails.Given as goal

abbrev pub invariant-loop-process : goal.invariant-loop-process
invariant-loop-process l = record {
  new : AreNew IsEmpty l.process l.mails.items;
  room : l.count ≤ l.mails.cap;
}
