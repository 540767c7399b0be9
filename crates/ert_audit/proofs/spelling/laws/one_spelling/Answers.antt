use Rattle.ert_audit.proofs.OneSpelling.{unique, never_both, never_neither, one_line}
use Rattle.ert_audit.proofs.spelling.laws.one_spelling.Goals as goal

pub returns-clause-unique : goal.returns-clause-unique
returns-clause-unique c = unique

pub returns-clause-never_both : goal.returns-clause-never_both
returns-clause-never_both c = never_both

pub returns-clause-one_line : goal.returns-clause-one_line
returns-clause-one_line c = one_line

pub returns-clause-never_neither : goal.returns-clause-never_neither
returns-clause-never_neither c = never_neither
