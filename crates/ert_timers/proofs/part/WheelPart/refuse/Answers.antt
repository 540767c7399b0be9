use Rattle.ert_table.specs.Desks.{settings_of, view_of}
use Rattle.ert_timers.proofs.{Moved.refused_armed, Renewed.{is_read, missed_at, not_read, peek_calm}}
use Rattle.ert_timers.proofs.part.WheelPart.refuse.Goals as goal

pub returns-in-Some-clause-stands : goal.returns-in-Some-clause-stands
returns-in-Some-clause-stands c =
    (is_read (settings_of c.args.desk.now) (view_of c.args.pass.now) (view_of c.peek_word.new.self) c.args.by c.args.self.now c.args.timer c.peek_word.result _ c.in-Some.is
    c.peek_word.ensures.step c.requires.stands c.requires.holds).stands

pub returns-in-Some-clause-call : goal.returns-in-Some-clause-call
returns-in-Some-clause-call c = λ wheel start.
    let read = is_read (settings_of c.args.desk.now) (view_of c.args.pass.now) (view_of c.peek_word.new.self) c.args.by c.args.self.now c.args.timer c.peek_word.result _ c.in-Some.is
    c.peek_word.ensures.step c.requires.stands c.requires.holds in
    refused_armed (settings_of c.args.desk.now) (view_of c.args.pass.now) (view_of c.peek_word.new.self) c.args.by wheel c.args.timer start read.found read.step

pub returns-in-None-clause-stands : goal.returns-in-None-clause-stands
returns-in-None-clause-stands c =
    let g = settings_of c.args.desk.now in
    let v = view_of c.args.pass.now in
    let u = view_of c.peek_word.new.self in
    peek_calm g v c.args.by c.args.timer _ u c.args.self.now c.requires.stands c.requires.holds
    (not_read g v u c.args.by c.args.timer c.peek_word.result c.in-None.is c.peek_word.ensures.step)

pub returns-in-None-clause-call : goal.returns-in-None-clause-call
returns-in-None-clause-call c = λ wheel start.
    let g = settings_of c.args.desk.now in
    let v = view_of c.args.pass.now in
    let u = view_of c.peek_word.new.self in
    missed_at g v u c.args.by wheel c.args.timer start (not_read g v u c.args.by c.args.timer c.peek_word.result c.in-None.is c.peek_word.ensures.step)
