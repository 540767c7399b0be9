use Rattle.std.proofs.Common.{◌∙◌, rules, FitsSigned, w64, to_z-of_z}
use Rattle.ert_program.proofs.Chosen.{ticked_later, ticked_op}
use Rattle.ert_program.proofs.generator.Generator.tick.Goals as goal

pub returns-clause-op : goal.returns-clause-op
returns-clause-op c =
    let step_fits : FitsSigned w64 c.step-step.result = search rules in
    let fall_fits : FitsSigned w64 c.fall-fall.result = search rules in
    c.go_on.ensures.op ∙ ticked_op c.args.self.now c.go_on.new.self
    (ticked_later c.args.self.now c.step-step.new.self c.fall-fall.new.self c.go_on.new.self c.step-step.result c.fall-fall.result
    c.step-step.ensures.value c.step-step.ensures.later c.fall-fall.ensures.value c.fall-fall.ensures.later
    (simp to_z-of_z at c.go_on.ensures.mono) (simp to_z-of_z at c.go_on.ensures.sys) c.go_on.ensures.x c.go_on.ensures.next)

pub returns-clause-later : goal.returns-clause-later
returns-clause-later c =
    let step_fits : FitsSigned w64 c.step-step.result = search rules in
    let fall_fits : FitsSigned w64 c.fall-fall.result = search rules in
    ticked_later c.args.self.now c.step-step.new.self c.fall-fall.new.self c.go_on.new.self c.step-step.result c.fall-fall.result
    c.step-step.ensures.value c.step-step.ensures.later c.fall-fall.ensures.value c.fall-fall.ensures.later
    (simp to_z-of_z at c.go_on.ensures.mono) (simp to_z-of_z at c.go_on.ensures.sys) c.go_on.ensures.x c.go_on.ensures.next
