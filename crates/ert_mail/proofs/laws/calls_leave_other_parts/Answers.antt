use Rattle.ert_mail.proofs.LawsHold.{takes_only, monitors_only, demonitors_only, notifies_only, handing_only, answers_only, asks_only, picks_only}
use Rattle.ert_mail.proofs.laws.calls_leave_other_parts.Goals as goal

pub returns-clause-takes : goal.returns-clause-takes
returns-clause-takes c = takes_only

pub returns-clause-monitors : goal.returns-clause-monitors
returns-clause-monitors c = monitors_only

pub returns-clause-demonitors : goal.returns-clause-demonitors
returns-clause-demonitors c = demonitors_only

pub returns-clause-notifies : goal.returns-clause-notifies
returns-clause-notifies c = notifies_only

pub returns-clause-hands_over : goal.returns-clause-hands_over
returns-clause-hands_over c = handing_only

pub returns-clause-answers : goal.returns-clause-answers
returns-clause-answers c = answers_only

pub returns-clause-asks : goal.returns-clause-asks
returns-clause-asks c = asks_only

pub returns-clause-picks : goal.returns-clause-picks
returns-clause-picks c = picks_only
