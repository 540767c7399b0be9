use Rattle.std.proofs.Common.{sym, ◌∙◌, arith}
use Rattle.std.proofs.lemmas.Bool.{true≢false}
use Rattle.ert_wheel.proofs.Risen.{row_due}
use Rattle.ert_wheel.proofs.rising.is_due.Goals as goal

pub returns-clause-due : goal.returns-clause-due
returns-clause-due g c =
    row_due c.args.chains.now c.args.kept.now.keys c.args.time c.args.slot c.deadline.result
    (omega (arith, c.if-slot-len.false, c.len.ensures.keys)) c.requires.kept c.requires.most
    (λ e. true≢false (sym (c.is_alone.ensures.1 e) ∙ c.if-is_alone.false)) c.deadline.ensures
