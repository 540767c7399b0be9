use Rattle.std.proofs.Common.{◌≡◌, length}
use Rattle.ert_mail.proofs.Looked.{Passes}
use Rattle.ert_mail.specs.Lists.{AreListed, exited_from}
use Rattle.ert_table.specs.{Calls.IsMade, Desks.{settings_of, view_of, state_of, Belongs}}
use Rattle.ert_mail.proofs.list.MailList.next.Given as goal

abbrev pub invariant-loop-process : goal.invariant-loop-process
invariant-loop-process l = record {
  belongs : Belongs l.desk l.pass;
  bound : l.self.bound ≡ l.initial.self.bound;
  listed : AreListed (exited_from l.first (state_of l.desk l.pass).exited) l.self l.mails;
  looked : IsMade (settings_of l.desk) (view_of l.initial.pass) (Passes l.first l.by l.initial.self.held l.self.held) (view_of l.pass);
}

abbrev pub decreases-loop-process : goal.decreases-loop-process
decreases-loop-process l = length l.self.held
