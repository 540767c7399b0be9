use Rattle.std.proofs.Common.{List, length, sym, ap, subst, arith}
use Rattle.std.proofs.lemmas.List.{length-map}
use Rattle.ert_table.specs.Desks.{settings_of, view_of}
use Rattle.ert_timers.specs.{Expiring.IsReady, Looking.LooksDown, Parts.Part}
use Rattle.ert_timers.proofs.{Dues.none_left, Trials.{ready_looked, still_held, has_idled, has_tried, has_not_tried, when_none}}
use Rattle.ert_timers.proofs.part.WheelPart.try_due.Goals as goal
use Rattle.ert_defs.specs.declared.entry.Actor.TheVariants.{Sched}
use Rattle.ert_wheel.specs.{Rows.{row_told, rows_told}, declared.row.HeldRow.HeldRow}

pub go_on-requires : goal.go_on-requires
go_on-requires c = none_left c.args.self.now c.look_down-to.result c.if-is_idle.ensures

pub returns-then-is_idle-clause-call : goal.returns-then-is_idle-clause-call
returns-then-is_idle-clause-call c =
    has_idled (settings_of c.args.desk.now) (view_of c.args.pass.now) c.args.self.now c.go_on.new.self c.number.result c.look_down-to.result
    c.args.expired.now (view_of c.look_down-to.new.pass) c.number.ensures c.go_on.ensures.part c.go_on.ensures.stands c.look_down-to.ensures.looks c.if-is_idle.ensures
    c.requires.stands c.requires.holds

pub returns-then-is_idle-clause-on : goal.returns-then-is_idle-clause-on
returns-then-is_idle-clause-on c = omega (arith, ap (λ (q : Part). q.passed) c.go_on.ensures.part, c.look_down-to.ensures.few)

pub expire_all-requires-clause-holds : goal.expire_all-requires-clause-holds
expire_all-requires-clause-holds c =
    still_held (view_of c.args.pass.now) (view_of c.look_down-to.new.pass) c.args.self.now.number c.find_due.new.self.number c.requires.holds
    c.look_down-to.ensures.looks.step.actors (ap (λ (p : Part). p.number) c.find_due.ensures.part)

pub expire_all-requires-clause-ready : goal.expire_all-requires-clause-ready
expire_all-requires-clause-ready c =
    let g = settings_of c.args.desk.now in
    let v = view_of c.args.pass.now in
    let u = view_of c.look_down-to.new.pass in
    let to = c.look_down-to.result in
    subst (λ (p : Part). IsReady g u.front p to (rows_told p.keys c.deref.result.now)) (sym c.find_due.ensures.part)
    (subst (λ (rows : List HeldRow). IsReady g u.front c.args.self.now to (rows_told c.args.self.now.keys rows)) (sym c.deref.ensures.value)
    (ready_looked g v c.args.self.now to (rows_told c.args.self.now.keys c.in_ok-due.due.items) u c.requires.stands c.requires.holds
    (subst (λ n. LooksDown g v (Sched n) to u) c.number.ensures c.look_down-to.ensures.looks) c.in_ok-due.ensures.due))

pub returns-clause-call : goal.returns-clause-call
returns-clause-call c =
    let due = c.deref.result.now in
    has_tried (settings_of c.args.desk.now) (view_of c.args.pass.now) c.args.self.now c.find_due.new.self c.expire_all.new.self
    c.keep_list.new.self c.number.result c.look_down-to.result (rows_told c.find_due.new.self.keys due) (length due) c.args.expired.now c.find_due.new.expired c.expire_all.new.expired
    (view_of c.look_down-to.new.pass) (view_of c.expire_all.new.pass) c.number.ensures c.find_due.ensures.part c.keep_list.ensures
    c.find_due.ensures.expired c.look_down-to.ensures.looks c.expire_all.ensures.call
    (omega (arith, length-map due (row_told c.find_due.new.self.keys))) c.requires.holds

pub returns-in_err-due-clause-call : goal.returns-in_err-due-clause-call
returns-in_err-due-clause-call c =
    let g = settings_of c.args.desk.now in
    let v = view_of c.args.pass.now in
    let u = view_of c.look_down-to.new.pass in
    when_none g v c.args.self.now c.find_due.new.self c.from_residual.result c.args.expired.now c.find_due.new.expired u c.from_residual.ensures.0
    (λ e. has_not_tried g v c.args.self.now c.find_due.new.self c.number.result c.look_down-to.result e c.args.expired.now c.find_due.new.expired u
    c.requires.stands c.requires.holds c.number.ensures c.find_due.ensures.part c.look_down-to.ensures.looks c.find_due.ensures.expired)
