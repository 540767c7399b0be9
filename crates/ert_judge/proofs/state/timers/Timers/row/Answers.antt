use Rattle.std.proofs.Common.{◌∙◌, Some, None}
use Rattle.ert_judge.proofs.WheelLaws.{row_found}
use Rattle.ert_judge.specs.Wheels.{timers_at}
use Rattle.ert_judge.proofs.state.timers.Timers.row.Goals as goal

pub returns : goal.returns
returns c =
    row_found (timers_at c.args.self.now c.args.timer.wheel) c.args.timer (Some c.in_ok-find.field-0) c.in_ok-find.ensures

pub returns-in_err-find : goal.returns-in_err-find
returns-in_err-find c =
    c.from_residual.ensures
    ∙ row_found (timers_at c.args.self.now c.args.timer.wheel) c.args.timer None c.in_err-find.ensures
