use Rattle.std.proofs.Common.{◌≡◌, ◌∙◌, true, false, Some, None, inr, sym, subst, append-nil, arith}
use Rattle.ert_defs.specs.{States.state, Timers.Row}
use Rattle.ert_table.specs.{Desks.{settings_of, view_of}, Settlings.HasRow}
use Rattle.ert_timers.proofs.Tried.{expired_from, held_has_row}
use Rattle.ert_timers.proofs.part.WheelPart.expire.Goals as goal
use Rattle.ert_wheel.specs.Rows.{key_of, row_told}

pub settle-hit-requires-clause-row : goal.settle-hit-requires-clause-row
settle-hit-requires-clause-row c =
    let g = settings_of c.args.desk.now in
    let v = view_of c.args.pass.now in
    subst (λ (t : Row). HasRow (state g v.front) t.timer t.deadline) (sym c.timer-timer.ensures)
    (held_has_row g v.front c.args.self.now c.args.row.slot (key_of (row_told c.args.self.now.keys c.args.row)) c.requires.stands c.requires.held)

pub returns-then-not-hit-clause-call : goal.returns-then-not-hit-clause-call
returns-then-not-hit-clause-call c =
    expired_from (settings_of c.args.desk.now) (view_of c.args.pass.now) c.args.self.now c.let_go.new.self (row_told c.args.self.now.keys c.args.row) c.args.expired.now
    c.args.expired.now (view_of c.settle-hit.new.self) c.number.result c.timer-timer.result c.settle-hit.result false c.number.ensures c.timer-timer.ensures
    c.if-not-hit.true c.requires.stands c.requires.held c.requires.holds c.settle-hit.ensures.step c.settle-hit.ensures.settled c.let_go.ensures
    (sym (append-nil c.args.expired.now.rows)) (omega arith)

pub returns-clause-call : goal.returns-clause-call
returns-clause-call c =
    expired_from (settings_of c.args.desk.now) (view_of c.args.pass.now) c.args.self.now c.let_go.new.self (row_told c.args.self.now.keys c.args.row) c.args.expired.now
    c.push.new.self (view_of c.settle-hit.new.self) c.number.result c.timer-timer.result c.settle-hit.result true c.number.ensures c.timer-timer.ensures
    c.if-not-hit.false c.requires.stands c.requires.held c.requires.holds c.settle-hit.ensures.step c.settle-hit.ensures.settled c.let_go.ensures
    c.push.ensures.rows c.push.ensures.room

pub timer-timer-requires-clause-used : goal.timer-timer-requires-clause-used
timer-timer-requires-clause-used c = inr (λ none. let no : Some (key_of (row_told c.args.self.now.keys c.args.row)) ≡ None = sym c.requires.held ∙ none in cc)
