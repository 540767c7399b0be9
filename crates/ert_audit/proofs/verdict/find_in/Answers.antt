use Rattle.std.proofs.Common.{arith, ap, sym, subst, ◌≡◌, ◌∙◌, ℕ, length}
use Rattle.std.specs.Prelude.{vec_len}
use Rattle.ert_judge.specs.Verdicts.{StopsAtIllegal}
use Rattle.ert_audit.specs.Spelling.{MisspelledAt}
use Rattle.ert_audit.proofs.Texts.{legal_text, illegal_text, no_history}
use Rattle.ert_audit.proofs.verdict.find_in.Goals as goal

pub returns-in-Err-Misspelled : goal.returns-in-Err-Misspelled
returns-in-Err-Misspelled c =
    subst (λ (line : ℕ). MisspelledAt c.args.text.now line) (sym c.in-Err-Misspelled.line-is)
    (c.in-Err-Misspelled.ensures.err c.in-Err-Misspelled.line (ap no_history c.in-Err-Misspelled.field-0-is))

pub returns-in-None : goal.returns-in-None
returns-in-None c =
    legal_text c.args.text.now c.in-Ok.history.settings c.in-Ok.history.entries.items c.deref.result.now
    c.in_ok-first_stop.field-0 c.len.result c.in-Ok.ensures.ok c.deref.ensures.value
    c.in_ok-first_stop.ensures.legal c.in-None.is
    (let same : vec_len c.in-Ok.history.entries ≡ length c.in-Ok.history.entries.items = c.in-Ok.history.entries.ok.0 in
    c.len.ensures ∙ same)

pub overflow_add-result : goal.overflow_add-result
overflow_add-result c =
    let stops : StopsAtIllegal c.in-Ok.history.settings c.deref.result.now c.in-Some.stop = rw c.in-Some.is at c.in_ok-first_stop.ensures.stops in
    let low = stops.first.within in
    let same = ap length c.deref.ensures.value in
    let small = c.in-Ok.history.entries.small in
    let ok = c.in-Ok.history.entries.ok in
    omega arith

pub returns : goal.returns
returns c =
    illegal_text c.args.text.now c.in-Ok.history.settings c.in-Ok.history.entries.items c.deref.result.now c.in-Some.stop
    c.in-Ok.ensures.ok c.deref.ensures.value (rw c.in-Some.is at c.in_ok-first_stop.ensures.stops)
