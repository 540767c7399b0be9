use Rattle.std.proofs.Common.{sym, ◌∙◌}
use Rattle.ert_audit.proofs.Digits.{parsed, no_number}
use Rattle.ert_audit.proofs.spelling.numbers.natural_of.Goals as goal

pub returns-in-Ok : goal.returns-in-Ok
returns-in-Ok c =
    c.ok.ensures.value
    ∙ parsed c.args.word.now c.parse.result (sym c.is_plain.ensures ∙ c.if-not-is_plain.false) (rw c.in-Ok.ensures.cases.0 at c.parse.ensures.value.0)

pub returns-in-Err : goal.returns-in-Err
returns-in-Err c = sym (no_number c.args.word.now c.in-Err.ensures.cases.0)
