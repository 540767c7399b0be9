use Rattle.ert_mail.proofs.LawsHold.{mail_on}
use Rattle.ert_mail.proofs.laws.mailboxes_stand_on.Goals as goal

pub returns : goal.returns
returns c = mail_on
