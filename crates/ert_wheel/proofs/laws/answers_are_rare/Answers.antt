use Rattle.ert_wheel.proofs.Closer.{near_answers, rare_answers, true_windows}
use Rattle.ert_wheel.proofs.laws.answers_are_rare.Goals as goal

pub returns-clause-near : goal.returns-clause-near
returns-clause-near c = near_answers

pub returns-clause-rare : goal.returns-clause-rare
returns-clause-rare c = rare_answers

pub returns-clause-windows : goal.returns-clause-windows
returns-clause-windows c = true_windows
