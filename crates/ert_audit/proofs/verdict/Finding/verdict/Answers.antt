use Rattle.ert_audit.specs.Findings.{IsIllegalBy}
use Rattle.ert_audit.proofs.verdict.Finding.verdict.Goals as goal

pub returns-in-Illegal-clause-holds : goal.returns-in-Illegal-clause-holds
returns-in-Illegal-clause-holds c = λ text is.
    let by : IsIllegalBy text c.in-Illegal.line c.in-Illegal.why = rw c.in-Illegal.is at is in
    record { history = by.history; place = by.place; first = by.first; at = by.at }
