use Rattle.std.proofs.Common.{[], refl, sym, ◌∙◌}
use Rattle.ert_table.specs.Desks.{settings_of, view_of}
use Rattle.ert_timers.proofs.{Trials.{still_held, stands_ended, may_end, has_expired, tries_held}, Dues.none_left, Passing.passed}
use Rattle.ert_timers.proofs.part.WheelPart.advance.Goals as goal

pub load_time-requires-clause-may : goal.load_time-requires-clause-may
load_time-requires-clause-may c = λ now.
    let tried = c.in_ok-to.ensures.call in
    let w = view_of c.try_due.new.pass in
    may_end (settings_of c.args.desk.now) w c.try_due.new.self c.in_ok-to.to c.number.result [] tried.ready refl
    (still_held (view_of c.args.pass.now) w c.args.self.now.number c.try_due.new.self.number c.requires.holds tried.call.actors tried.number)
    c.number.ensures

pub returns-clause-stands : goal.returns-clause-stands
returns-clause-stands c =
    let tried = c.in_ok-to.ensures.call in
    let w = view_of c.try_due.new.pass in
    let held =
    still_held (view_of c.args.pass.now) w c.args.self.now.number c.number.result c.requires.holds tried.call.actors
    (c.number.ensures ∙ tried.number) in
    stands_ended (settings_of c.args.desk.now) w c.try_due.new.self c.try_due.new.self c.number.result c.in_ok-to.to (view_of c.load_time.new.self)
    tried.ready.stands refl (sym c.number.ensures) held.wheel c.load_time.ensures.step

pub returns-clause-call : goal.returns-clause-call
returns-clause-call c =
    let tried = c.in_ok-to.ensures.call in
    has_expired (settings_of c.args.desk.now) (view_of c.args.pass.now) c.args.self.now c.try_due.new.self c.number.result c.in_ok-to.to
    c.args.expired.now c.try_due.new.expired (view_of c.try_due.new.pass) (view_of c.load_time.new.self) (c.number.ensures ∙ tried.number) tried
    c.load_time.ensures.step c.requires.holds

pub returns-clause-passed : goal.returns-clause-passed
returns-clause-passed c = passed c.try_due.new.self c.in_ok-to.to (none_left c.try_due.new.self c.in_ok-to.to c.in_ok-to.ensures.call.ready.due) c.in_ok-to.ensures.on

pub returns-clause-loses : goal.returns-clause-loses
returns-clause-loses c = c.in_ok-to.ensures.call.loses

pub returns-clause-held : goal.returns-clause-held
returns-clause-held c =
    let tried = c.in_ok-to.ensures.call in
    tries_held (settings_of c.args.desk.now) (view_of c.args.pass.now) c.args.self.now c.try_due.new.self c.number.result c.in_ok-to.to
    c.args.expired.now c.try_due.new.expired (view_of c.try_due.new.pass) (view_of c.load_time.new.self) (c.number.ensures ∙ tried.number) tried
    c.load_time.ensures.step
