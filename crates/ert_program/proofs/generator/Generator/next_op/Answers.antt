use Rattle.std.proofs.Common.{ap, sym, ◌∙◌}
use Rattle.ert_program.specs.Steps.{Made}
use Rattle.ert_program.proofs.Chosen.{chosen}
use Rattle.ert_program.proofs.generator.Generator.next_op.Goals as goal

pub returns-clause-op : goal.returns-clause-op
returns-clause-op c =
    let is = chosen c.args.self.now c.draw-choice.new.self c.draw-choice.result c.draw-choice.ensures.value c.draw-choice.ensures.later in
    c.op_for.ensures.op ∙ sym (ap (λ (x : Made). x.op) is)

pub returns-clause-later : goal.returns-clause-later
returns-clause-later c =
    let is = chosen c.args.self.now c.draw-choice.new.self c.draw-choice.result c.draw-choice.ensures.value c.draw-choice.ensures.later in
    c.op_for.ensures.later ∙ sym (ap (λ (x : Made). x.later) is)
