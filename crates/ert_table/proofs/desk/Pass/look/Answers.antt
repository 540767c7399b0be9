use Rattle.std.proofs.Common.{sym, subst, rules, ◌≤ℤ◌, ◌<ℤ◌, ℤ, FitsSigned, w64, to_z-of_z}
use Rattle.ert_defs.specs.Lines.{end_time}
use Rattle.ert_defs.proofs.Times.{state_in_range}
use Rattle.ert_table.specs.Desks.{settings_of, front_of}
use Rattle.ert_table.proofs.desk.Pass.look.Goals as goal

pub returns-clause-low : goal.returns-clause-low
returns-clause-low c =
    let fits : FitsSigned w64 c.load_time.result = search rules in
    let g = settings_of c.args.desk.now in
    let within = state_in_range g (front_of c.load_time.new.self) c.args.desk.now.checked c.load_time.ensures.step.legal in
    simp to_z-of_z (subst (λ (x : ℤ). g.start ≤ℤ x) (sym c.load_time.ensures.time) within.low)

pub returns-clause-high : goal.returns-clause-high
returns-clause-high c =
    let fits : FitsSigned w64 c.load_time.result = search rules in
    let g = settings_of c.args.desk.now in
    let within = state_in_range g (front_of c.load_time.new.self) c.args.desk.now.checked c.load_time.ensures.step.legal in
    simp to_z-of_z (subst (λ (x : ℤ). x <ℤ end_time g) (sym c.load_time.ensures.time) within.high)
