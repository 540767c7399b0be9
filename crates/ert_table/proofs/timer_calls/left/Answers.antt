use Rattle.std.proofs.Common.{◌≡◌, ◌∙◌, sym, ap, rules, ℤ, pos, ◌-ℤ◌, FitsSigned, w64, to_z-of_z}
use Rattle.ert_defs.specs.Milliseconds.{up}
use Rattle.ert_table.proofs.Timings.{natural_sub}
use Rattle.ert_table.proofs.timer_calls.left.Goals as goal

pub returns : goal.returns
returns c =
    let fits : FitsSigned w64 c.args.now = search rules in
    let rounded : pos c.rounded_up.result ≡ up c.args.settings.now c.args.now = simp to_z-of_z at c.rounded_up.ensures in
    c.saturating_sub.ensures
    ∙ sym (natural_sub _ c.args.deadline c.rounded_up.result (ap (λ (x : ℤ). pos c.args.deadline -ℤ x) (sym rounded)))
