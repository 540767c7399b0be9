use Rattle.std.proofs.Common.{rules, FitsSigned, w64, to_z-of_z}
use Rattle.ert_script.proofs.mail_line.write_mail.Goals as goal

pub returns-in-Timeout : goal.returns-in-Timeout
returns-in-Timeout c = rw (c.in-Timeout.is, ← c.label.ensures) c.write_timeout.ensures

pub returns-in-Bare : goal.returns-in-Bare
returns-in-Bare c = rw c.in-Bare.is c.write_bare.ensures

pub returns-in-CancelDone : goal.returns-in-CancelDone
returns-in-CancelDone c = rw (c.in-CancelDone.is, ← c.label-in-CancelDone.ensures) c.write_done.ensures

pub returns-in-ReadDone : goal.returns-in-ReadDone
returns-in-ReadDone c = rw (c.in-ReadDone.is, ← c.label-in-ReadDone.ensures) c.write_done-in-ReadDone.ensures

pub returns-in-Change : goal.returns-in-Change
returns-in-Change c =
    let offset : FitsSigned w64 c.in-Change.offset = search rules in
    rw c.in-Change.is (simp to_z-of_z at c.write_change.ensures)
