use Rattle.ert_laws.proofs.Mailboxes.{mailboxes}
use Rattle.ert_laws.proofs.mail_order.mailboxes_keep_order.Goals as goal

pub returns : goal.returns
returns c = mailboxes
