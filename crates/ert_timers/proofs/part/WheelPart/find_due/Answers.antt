use Rattle.std.proofs.Common.{subst, ◌∙◌}
use Rattle.ert_timers.specs.{Expiring.AreDue, Parts.Part}
use Rattle.ert_timers.proofs.Trials.{are_due}
use Rattle.ert_timers.proofs.part.WheelPart.find_due.Goals as goal
use Rattle.ert_wheel.specs.Rows.{rows_told}

pub returns-clause-due : goal.returns-clause-due
returns-clause-due c =
    subst (λ (p : Part). AreDue p c.args.to (rows_told p.keys c.due.new.out.items)) (c.self.view_is ∙ c.lend_list.ensures.part)
    (are_due _ c.args.to (rows_told c.self.inside.wheel.keys c.due.new.out.items) c.due.ensures.each c.due.ensures.rows c.due.ensures.sorted)
