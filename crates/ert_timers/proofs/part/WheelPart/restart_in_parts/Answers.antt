use Rattle.std.proofs.Common.{◌∙◌, sym, subst}
use Rattle.ert_defs.specs.{Timers.timer_at, declared.timer.Start.Start}
use Rattle.ert_table.specs.{Calls.IsMade, Desks.{settings_of, view_of}}
use Rattle.ert_timers.specs.{Frees.UsesFree, Passed.GainsOne, Restarting.{EndsAfter, HasLetGo}}
use Rattle.std.specs.Prelude.{◌/◌}
use Rattle.ert_timers.proofs.part.WheelPart.restart_in_parts.Goals as goal

pub returns-clause-call : goal.returns-clause-call
returns-clause-call c =
    let g = settings_of c.args.desk.now in
    let start : Start = record { when = c.args.when; dest = c.args.dest; msg = c.args.msg; kind = c.args.kind } in
    subst (λ r. IsMade g (view_of c.args.pass.now) (EndsAfter g c.args.by c.args.self.now.number (timer_at c.args.wheel c.args.slot c.args.generation) start (c.args.passed / 1000000) r) (view_of c.restart_elsewhere-answer.new.pass))
    (sym c.told.ensures) c.restart_elsewhere-answer.ensures.call

pub returns-clause-full : goal.returns-clause-full
returns-clause-full c = λ is. c.restart_elsewhere-answer.ensures.full (sym c.told.ensures ∙ is)

pub returns-clause-frees : goal.returns-clause-frees
returns-clause-frees c = subst (λ r. UsesFree c.args.self.now c.restart_elsewhere-answer.new.self r) (sym c.told.ensures) c.restart_elsewhere-answer.ensures.frees

pub returns-clause-rows : goal.returns-clause-rows
returns-clause-rows c = subst (λ r. GainsOne c.args.self.now c.restart_elsewhere-answer.new.self r) (sym c.told.ensures) c.restart_elsewhere-answer.ensures.rows

pub returns-clause-gone : goal.returns-clause-gone
returns-clause-gone c =
    subst (λ r. HasLetGo (timer_at c.args.wheel c.args.slot c.args.generation) r c.restart_elsewhere-answer.new.self) (sym c.told.ensures) c.restart_elsewhere-answer.ensures.gone
