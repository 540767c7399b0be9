use Rattle.std.proofs.Common.{◌≡◌, ◌∙◌, ap, rules, FitsSigned, w64, to_z, of_z, to_z-of_z}
use Rattle.ert_defs.specs.{Milliseconds.left, declared.settings.Settings.Settings}
use Rattle.ert_table.specs.Desks.{settings_of, view_of}
use Rattle.ert_table.proofs.Timings.{reads_none, reads_unarmed, reads_armed}
use Rattle.ert_table.proofs.desk.Pass.read_timer.Goals as goal

pub returns-then-not-is_in_range-clause-call : goal.returns-then-not-is_in_range-clause-call
returns-then-not-is_in_range-clause-call c = reads_none (settings_of c.args.desk.now) (view_of c.args.self.now) c.args.by c.args.timer c.look-now.result (view_of c.look-now.new.self) (search rules) c.look-now.ensures.step

pub returns-in_err-deadline-clause-call : goal.returns-in_err-deadline-clause-call
returns-in_err-deadline-clause-call c =
    reads_unarmed (settings_of c.args.desk.now) (view_of c.args.self.now) c.args.by c.args.timer c.look-now.result (view_of c.look-now.new.self)
    c.peek.result c.from_residual.result (view_of c.peek.new.self) (search rules) (search rules) c.requires.held (search rules)
    c.look-now.ensures.step c.peek.ensures.step

pub returns-clause-call : goal.returns-clause-call
returns-clause-call c =
    let fits : FitsSigned w64 c.look-now.result = search rules in
    let told : c.left.result ≡ left (settings_of c.args.desk.now) c.in_ok-deadline.deadline c.look-now.result =
    simp to_z-of_z at (c.left.ensures
    ∙ ap (λ (s : Settings). left s c.in_ok-deadline.deadline (to_z w64 (of_z w64 c.look-now.result))) c.settings-2.ensures) in
    reads_armed (settings_of c.args.desk.now) (view_of c.args.self.now) c.args.by c.args.timer c.look-now.result (view_of c.look-now.new.self)
    c.peek.result c.in_ok-deadline.deadline c.left.result (view_of c.peek.new.self) (search rules) told c.requires.held (search rules)
    c.look-now.ensures.step c.peek.ensures.step
