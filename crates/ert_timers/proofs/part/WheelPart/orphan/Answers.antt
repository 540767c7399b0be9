use Rattle.std.proofs.Common.{sym, subst}
use Rattle.ert_defs.specs.States.{state}
use Rattle.ert_table.specs.{Desks.{settings_of, view_of}, Settlings.HasRow}
use Rattle.ert_timers.proofs.{Orphaned.{orphaned, may_orphan}, Tried.held_has_row}
use Rattle.ert_timers.proofs.part.WheelPart.orphan.Goals as goal

pub settle-hit-requires-clause-row : goal.settle-hit-requires-clause-row
settle-hit-requires-clause-row c =
    let g = settings_of c.args.desk.now in
    let v = view_of c.args.pass.now in
    subst (λ t. HasRow (state g v.front) t c.args.deadline) (sym c.requires.held.named)
    (held_has_row g v.front c.args.self.now c.args.timer.slot _ c.requires.stands c.requires.held.held)

pub settle-hit-requires-clause-may : goal.settle-hit-requires-clause-may
settle-hit-requires-clause-may c =
    may_orphan (settings_of c.args.desk.now) (view_of c.args.pass.now) c.args.by c.args.self.now c.args.timer c.args.deadline c.requires.stands
    c.requires.held c.requires.holds c.requires.exited

pub returns-clause-call : goal.returns-clause-call
returns-clause-call c =
    orphaned (settings_of c.args.desk.now) (view_of c.args.pass.now) c.args.by c.args.self.now c.give_back.new.self c.args.timer c.args.deadline
    c.settle-hit.result (view_of c.settle-hit.new.self) c.requires.stands c.requires.held c.requires.holds c.settle-hit.ensures.step
    c.settle-hit.ensures.settled c.give_back.ensures
