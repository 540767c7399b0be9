use Rattle.std.proofs.Common.{sym, ◌∙◌}
use Rattle.ert_judge.proofs.FindLaws.{found_none, found_at}
use Rattle.ert_judge.proofs.state.wheels.Wheel.find.Goals as goal

pub returns-in_err-found : goal.returns-in_err-found
returns-in_err-found c = c.from_residual.ensures ∙ sym (found_none c.args.self.now c.args.timer c.in_err-found.ensures)

pub returns : goal.returns
returns c = sym (found_at c.args.self.now c.args.timer c.in_ok-found.field-0-0 c.in_ok-found.found c.in_ok-found.ensures)
