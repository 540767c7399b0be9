use Rattle.ert_table.specs.Desks.{settings_of, view_of}
use Rattle.ert_mail.proofs.AnswerSteps.{may_answer, replied}
use Rattle.ert_mail.proofs.replies.reply.Goals as goal

pub load_time-requires-clause-may : goal.load_time-requires-clause-may
load_time-requires-clause-may c =
    λ now. may_answer (settings_of c.args.desk.now) (view_of c.args.pass.now) c.args.sched c.args.request.now c.do_asked-left.result
    (view_of c.do_asked-left.new.pass) c.requires.holds c.requires.in_range c.requires.hand c.do_asked-left.ensures.steps

pub returns-clause-steps : goal.returns-clause-steps
returns-clause-steps c =
    replied (settings_of c.args.desk.now) (view_of c.args.pass.now) c.args.sched c.args.request.now c.do_asked-left.result
    (view_of c.do_asked-left.new.pass) (view_of c.load_time.new.self) c.requires.holds c.requires.hand c.do_asked-left.ensures.steps
    c.load_time.ensures.step
