use Rattle.std.proofs.Common.{rules, ◌≡◌, ◌∙◌, ap, Some, FitsSigned, w64, to_z-of_z}
use Rattle.std.specs.Prelude.{ℤ}
use Rattle.ert_defs.specs.declared.timer.Status.TheVariants.{Armed}
use Rattle.ert_judge.specs.{Parts.{looks_in, look_of}, Wheels.timers_at}
use Rattle.ert_judge.proofs.Finds.{left_armed}
use Rattle.ert_judge.proofs.judge.Judge.left.Goals as goal

pub returns-in-Some : goal.returns-in-Some
returns-in-Some c = λ c'.
    let look : ℤ = look_of (looks_in c.args.self.now.looks) c.args.by in
    let armed : c.in-Some.found.status ≡ Armed = search rules in
    let is = left_armed c.args.self.now.settings look (timers_at c.args.self.now.timers c.args.timer.wheel)
    c.args.timer c.in-Some.found c.in-Some.ensures armed in
    let n : FitsSigned w64 c.of.result = search rules in
    let e = simp to_z-of_z at c.left.ensures in
    let told = rw c.of.ensures at e in
    ap Some told ∙ is
