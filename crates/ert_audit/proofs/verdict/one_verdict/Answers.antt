use Rattle.ert_audit.proofs.OneVerdict.{verdict_is_one}
use Rattle.ert_audit.proofs.verdict.one_verdict.Goals as goal

pub returns : goal.returns
returns c =
    verdict_is_one (record {
      unique = c.one_spelling.ensures.unique;
      never_both = c.one_spelling.ensures.never_both;
      one_line = c.one_spelling.ensures.one_line;
    })
