use Rattle.std.proofs.Common.{◌∙◌, subst, inr, List, ℕ}
use Rattle.ert_audit.specs.Verdicts.{HasVerdict}
use Rattle.ert_audit.proofs.Completes.{all_read, told_so, judges}
use Rattle.ert_audit.proofs.auditing.audit.Goals as goal

pub returns-in-Ok-find_in-clause-judged : goal.returns-in-Ok-find_in-clause-judged
returns-in-Ok-find_in-clause-judged g c =
    let verdict = c.verdict.result in
    judges verdict c.tell.result
    (record {
      takes = record { reads = c.in-Ok.ensures.bytes; short = c.in-Ok.ensures.short; ended = c.in-Ok.ensures.ended; none_left = c.in-Ok.ensures.none_left };
      is = subst (λ (t : List ℕ). HasVerdict t verdict) c.deref.ensures.value (c.verdict.ensures.holds c.deref.result.now c.in-Ok-find_in.ensures);
    })
    c.tell.ensures.which c.tell.ensures.told

pub returns-in-Ok-find_in-clause-stops : goal.returns-in-Ok-find_in-clause-stops
returns-in-Ok-find_in-clause-stops g c = λ _.
    let verdict = c.verdict.result in
    inr (record {
      text = c.in-Ok.text.items;
      verdict = verdict;
      has = record {
        takes = record { reads = c.in-Ok.ensures.bytes; short = c.in-Ok.ensures.short; ended = c.in-Ok.ensures.ended; none_left = c.in-Ok.ensures.none_left };
        is = subst (λ (t : List ℕ). HasVerdict t verdict) c.deref.ensures.value (c.verdict.ensures.holds c.deref.result.now c.in-Ok-find_in.ensures);
      };
      writes = c.tell.ensures.front;
    })

pub returns-in-Ok-find_in-clause-complete : goal.returns-in-Ok-find_in-clause-complete
returns-in-Ok-find_in-clause-complete g c = λ read wrote text verdict all short has.
    told_so c.deref.result.now text c.verdict.result verdict c.tell.result c.one_verdict.ensures
    (c.deref.ensures.value ∙ all_read _ _ c.in-Ok.text.items text c.in-Ok.ensures.bytes c.in-Ok.ensures.none_left all)
    (c.verdict.ensures.holds c.deref.result.now c.in-Ok-find_in.ensures) has (λ fault. wrote (c.tell.ensures.cause fault)) c.tell.ensures.which
