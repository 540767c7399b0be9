use Rattle.std.proofs.Common.{refl}
use Rattle.ert_defs.specs.declared.mail.RequestKind.TheVariants.{Cancel, Read}
use Rattle.ert_script.proofs.Answered.{cancel_answered, quiet_answered, read_answered, asked_for, not_asked_for}
use Rattle.ert_script.proofs.doing.timer_op.Goals as goal

pub returns-in-Cancel-clause-answer : goal.returns-in-Cancel-clause-answer
returns-in-Cancel-clause-answer g c =
    let d = c.args.doer.now in
    rw c.in-Cancel.is
    (cancel_answered (g.D.Doer.settings d) (g.D.Doer.way d) (g.D.Doer.number d) c.args.timer (g.D.Doer.history d) _ c.in-Cancel.label c.cancel_timer.result c.cancel_timer.ensures.call)

pub returns-in-CancelQuiet-clause-answer : goal.returns-in-CancelQuiet-clause-answer
returns-in-CancelQuiet-clause-answer g c =
    let d = c.args.doer.now in
    let quiet = c.cancel_timer-in-CancelQuiet in
    rw c.in-CancelQuiet.is
    (quiet_answered (g.D.Doer.settings d) (g.D.Doer.way d) (g.D.Doer.number d) c.args.timer (g.D.Doer.history d) _ c.in-CancelQuiet.label quiet.result quiet.ensures.call)

pub returns-in-Read-clause-answer : goal.returns-in-Read-clause-answer
returns-in-Read-clause-answer g c =
    let d = c.args.doer.now in
    rw c.in-Read.is
    (read_answered (g.D.Doer.settings d) (g.D.Doer.way d) (g.D.Doer.number d) c.args.timer (g.D.Doer.history d) _ c.in-Read.label c.read_timer.result c.read_timer.ensures.call)

pub returns-in-Ok-clause-answer : goal.returns-in-Ok-clause-answer
returns-in-Ok-clause-answer g c =
    let d = c.args.doer.now in
    let op = c.in-CancelAsync in
    rw c.in-CancelAsync.is
    (record {
      does = λ ls of. asked_for (g.D.Doer.settings d) (g.D.Doer.way d) (g.D.Doer.number d) c.args.timer (g.D.Doer.history d) _ Cancel ls op.label op.process op.info c.request_for.result c.request_for.ensures (of op.label refl) c.in-Ok.ensures.call;
      fails = λ ls of. tt;
    })

pub returns-in-Err-clause-answer : goal.returns-in-Err-clause-answer
returns-in-Err-clause-answer g c =
    let d = c.args.doer.now in
    let op = c.in-CancelAsync in
    rw c.in-CancelAsync.is
    (record {
      does = λ ls of. tt;
      fails = λ ls of. not_asked_for (g.D.Doer.settings d) (g.D.Doer.way d) (g.D.Doer.number d) c.args.timer (g.D.Doer.history d) _ Cancel ls op.label op.process op.info c.request_for.result c.request_for.ensures (of op.label refl) c.in-Err.ensures.call;
    })

pub returns-in-Ok-ask-clause-answer : goal.returns-in-Ok-ask-clause-answer
returns-in-Ok-ask-clause-answer g c =
    let d = c.args.doer.now in
    let op = c.in-ReadAsync in
    rw c.in-ReadAsync.is
    (record {
      does = λ ls of. asked_for (g.D.Doer.settings d) (g.D.Doer.way d) (g.D.Doer.number d) c.args.timer (g.D.Doer.history d) _ Read ls op.label op.process op.info c.request_for-in-ReadAsync.result c.request_for-in-ReadAsync.ensures (of op.label refl) c.in-Ok-ask.ensures.call;
      fails = λ ls of. tt;
    })

pub returns-in-Err-ask-clause-answer : goal.returns-in-Err-ask-clause-answer
returns-in-Err-ask-clause-answer g c =
    let d = c.args.doer.now in
    let op = c.in-ReadAsync in
    rw c.in-ReadAsync.is
    (record {
      does = λ ls of. tt;
      fails = λ ls of. not_asked_for (g.D.Doer.settings d) (g.D.Doer.way d) (g.D.Doer.number d) c.args.timer (g.D.Doer.history d) _ Read ls op.label op.process op.info c.request_for-in-ReadAsync.result c.request_for-in-ReadAsync.ensures (of op.label refl) c.in-Err-ask.ensures.call;
    })
