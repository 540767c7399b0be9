use Rattle.std.proofs.Common.{ap}
use Rattle.ert_program.proofs.Draws.{after_wraps, draw_is}
use Rattle.ert_program.proofs.generator.Generator.draw.Goals as goal

pub returns-clause-value : goal.returns-clause-value
returns-clause-value c = draw_is c.args.below c.args.self.now.x _ (after_wraps c.args.self.now.x)

pub returns-clause-later : goal.returns-clause-later
returns-clause-later c = ap (λ x. record c.args.self.now { x = x }) (after_wraps c.args.self.now.x)
