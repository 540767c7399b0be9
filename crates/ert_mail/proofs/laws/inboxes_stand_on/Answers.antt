use Rattle.ert_mail.proofs.LawsHold.{inbox_on}
use Rattle.ert_mail.proofs.laws.inboxes_stand_on.Goals as goal

pub returns : goal.returns
returns c = inbox_on
