use Rattle.std.proofs.Common.{◌≡◌, ◌∙◌, ℕ, Some, None, option_map, sym, ap, rules, ℤ, pos, ◌-ℤ◌, FitsSigned, w64, to_z, of_z, to_z-of_z}
use Rattle.ert_defs.specs.{Milliseconds.{left, up}, declared.settings.Settings.Settings}
use Rattle.ert_table.specs.Desks.{settings_of, view_of}
use Rattle.ert_table.proofs.Timings.{cancels_none, cancels_all, natural_sub}
use Rattle.ert_table.proofs.desk.Pass.cancel_timer.Goals as goal

pub returns-then-not-is_in_range-clause-call : goal.returns-then-not-is_in_range-clause-call
returns-then-not-is_in_range-clause-call c =
    cancels_none (settings_of c.args.desk.now) (view_of c.args.self.now) c.args.by c.args.timer c.look-now.result (view_of c.look-now.new.self)
    (search rules) c.look-now.ensures.step

pub returns-in_err-deadline-clause-call : goal.returns-in_err-deadline-clause-call
returns-in_err-deadline-clause-call c =
    let g = settings_of c.args.desk.now in
    let none : c.cancel.result ≡ None = search rules in
    let nothing : c.from_residual.result ≡ None = search rules in
    cancels_all g (view_of c.args.self.now) c.args.by c.args.timer c.look-now.result (view_of c.look-now.new.self)
    c.cancel.result c.from_residual.result (view_of c.cancel.new.self)
    (nothing ∙ sym (ap (option_map (λ (d : ℕ). left g d c.look-now.result)) none))
    c.requires.held (search rules) c.look-now.ensures.step c.cancel.ensures.steps

pub returns-clause-call : goal.returns-clause-call
returns-clause-call c =
    let g = settings_of c.args.desk.now in
    let deadline = c.in_ok-deadline.deadline in
    let fits : FitsSigned w64 c.look-now.result = search rules in
    let rounded : pos c.rounded_up-up.result ≡ up g c.look-now.result =
    simp to_z-of_z at (c.rounded_up-up.ensures
    ∙ ap (λ (s : Settings). up s (to_z w64 (of_z w64 c.look-now.result))) c.settings-settings.ensures) in
    let told : c.saturating_sub.result ≡ left g deadline c.look-now.result =
    c.saturating_sub.ensures ∙ sym (natural_sub _ deadline c.rounded_up-up.result (ap (λ (x : ℤ). pos deadline -ℤ x) (sym rounded))) in
    let some : c.cancel.result ≡ Some deadline = search rules in
    cancels_all g (view_of c.args.self.now) c.args.by c.args.timer c.look-now.result (view_of c.look-now.new.self)
    c.cancel.result (Some c.saturating_sub.result) (view_of c.cancel.new.self)
    (ap (λ (n : ℕ). Some n) told ∙ sym (ap (option_map (λ (d : ℕ). left g d c.look-now.result)) some))
    c.requires.held (search rules) c.look-now.ensures.step c.cancel.ensures.steps
