use Rattle.std.proofs.Common.{◌∙◌, sym, subst}
use Rattle.ert_effects.specs.RestartCalls.{Restarts}
use Rattle.ert_table.specs.{Calls.IsMade, Desks.{settings_of, view_of}}
use Rattle.ert_timers.specs.{Frees.UsesFree, Passed.GainsOne, Restarting.HasLetGo}
use Rattle.ert_timers.proofs.part.WheelPart.restart.Goals as goal

pub returns-clause-call : goal.returns-clause-call
returns-clause-call c =
    let g = settings_of c.args.desk.now in
    subst (λ r. IsMade g (view_of c.args.pass.now) (Restarts g c.args.by c.args.self.now.number c.args.timer c.args.start.now r) (view_of c.restart_of_later_round-refused.new.pass))
    (sym c.refused_or.ensures) c.restart_of_later_round-refused.ensures.call

pub returns-clause-full : goal.returns-clause-full
returns-clause-full c = λ is. c.restart_of_later_round-refused.ensures.full (sym c.refused_or.ensures ∙ is)

pub returns-clause-frees : goal.returns-clause-frees
returns-clause-frees c =
    subst (λ r. UsesFree c.args.self.now c.restart_of_later_round-refused.new.self r) (sym c.refused_or.ensures) c.restart_of_later_round-refused.ensures.frees

pub returns-clause-rows : goal.returns-clause-rows
returns-clause-rows c =
    subst (λ r. GainsOne c.args.self.now c.restart_of_later_round-refused.new.self r) (sym c.refused_or.ensures) c.restart_of_later_round-refused.ensures.rows

pub returns-clause-gone : goal.returns-clause-gone
returns-clause-gone c =
    subst (λ r. HasLetGo c.args.timer r c.restart_of_later_round-refused.new.self) (sym c.refused_or.ensures) c.restart_of_later_round-refused.ensures.gone
