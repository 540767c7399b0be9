use Rattle.ert_text.proofs.judging.judgement.Goals as goal

pub returns : goal.returns
returns c = record {
  verdict = c.verdict-verdict.result;
  is = c.verdict-verdict.ensures.holds c.args.history.now c.in_ok-finding.ensures;
  tells = c.status_of_verdict.ensures;
  says = c.in_ok-line_of.ensures;
  why = rw c.verdict-verdict.ensures.is c.in_ok-why.ensures;
}
