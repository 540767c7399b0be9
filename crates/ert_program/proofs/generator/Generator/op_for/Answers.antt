use Rattle.std.proofs.Common.{ap, sym, ◌∙◌, arith}
use Rattle.ert_ops.specs.declared.op.Op.TheVariants.{Receive}
use Rattle.ert_program.specs.Steps.{Made}
use Rattle.ert_program.proofs.Chosen.{for_tick, for_start, for_receive}
use Rattle.ert_program.proofs.generator.Generator.op_for.Goals as goal

pub returns-in-0-clause-op : goal.returns-in-0-clause-op
returns-in-0-clause-op c = c.tick.ensures.op ∙ sym (ap (λ (x : Made). x.op) (for_tick c.args.choice c.args.self.now (omega arith)))

pub returns-in-0-clause-later : goal.returns-in-0-clause-later
returns-in-0-clause-later c = c.tick.ensures.later ∙ sym (ap (λ (x : Made). x.later) (for_tick c.args.choice c.args.self.now (omega arith)))

pub returns-in-2-clause-op : goal.returns-in-2-clause-op
returns-in-2-clause-op c = c.start.ensures.op ∙ sym (ap (λ (x : Made). x.op) (for_start c.args.choice c.args.self.now (omega arith) (omega arith)))

pub returns-in-2-clause-later : goal.returns-in-2-clause-later
returns-in-2-clause-later c = c.start.ensures.later ∙ sym (ap (λ (x : Made). x.later) (for_start c.args.choice c.args.self.now (omega arith) (omega arith)))

pub returns-in_default-clause-op : goal.returns-in_default-clause-op
returns-in_default-clause-op c = ap Receive c.draw-in_default.ensures.value ∙ sym (ap (λ (x : Made). x.op) (for_receive c.args.choice c.args.self.now (omega arith)))

pub returns-in_default-clause-later : goal.returns-in_default-clause-later
returns-in_default-clause-later c = c.draw-in_default.ensures.later ∙ sym (ap (λ (x : Made). x.later) (for_receive c.args.choice c.args.self.now (omega arith)))
