use Rattle.ert_program.proofs.CallsMade.{own_done, own_failed, own_unbound}
use Rattle.ert_table.specs.Desks.{front_of}
use Rattle.ert_program.proofs.races.op.do_one.Goals as goal

pub returns-in-Ok-bind_started-clause-answer : goal.returns-in-Ok-bind_started-clause-answer
returns-in-Ok-bind_started-clause-answer g c =
    let d = c.args.doer.now in
    own_done g.L.DeskName.settings d.session.seat.number c.args.known.now c.args.own.now c.args.op.now c.timer_in-timer.result (front_of d.session.seat.pass)
    (front_of c.do_op.new.doer.session.seat.pass) c.timer_in-timer.ensures c.in-Ok.reply c.bind_started.new.self c.in-Ok.ensures.answer c.in-Ok-bind_started.ensures.ok

pub returns-in-Err-bind_started-clause-answer : goal.returns-in-Err-bind_started-clause-answer
returns-in-Err-bind_started-clause-answer g c =
    let d = c.args.doer.now in
    own_unbound g.L.DeskName.settings d.session.seat.number c.args.known.now c.args.own.now c.args.op.now c.timer_in-timer.result (front_of d.session.seat.pass)
    (front_of c.do_op.new.doer.session.seat.pass) c.timer_in-timer.ensures c.in-Ok.reply c.in-Err-bind_started.e c.bind_started.new.self c.in-Ok.ensures.answer
    c.in-Err-bind_started.ensures.only

pub returns-in-Err-clause-answer : goal.returns-in-Err-clause-answer
returns-in-Err-clause-answer g c =
    let d = c.args.doer.now in
    own_failed g.L.DeskName.settings d.session.seat.number c.args.known.now c.args.own.now c.args.op.now c.timer_in-timer.result (front_of d.session.seat.pass)
    (front_of c.do_op.new.doer.session.seat.pass) c.timer_in-timer.ensures c.in-Err.e c.args.own.now c.in-Err.ensures.answer
