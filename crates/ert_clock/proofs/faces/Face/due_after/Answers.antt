use Rattle.std.proofs.Common.{rules, ap, ◌∙◌}
use Rattle.std.specs.Prelude.{◌-ℤ◌}
use Rattle.ert_defs.specs.Lines.{shift_of}
use Rattle.ert_clock.proofs.Casts.{apart}
use Rattle.ert_clock.proofs.faces.Face.due_after.Goals as goal

pub returns-in-Finalize : goal.returns-in-Finalize
returns-in-Finalize c = rw c.in-Finalize.is (simp (apart c.args.reading.sys c.args.now (search rules) (search rules)))

pub returns-in-Plain : goal.returns-in-Plain
returns-in-Plain c =
    let e = simp (apart c.args.reading.sys c.args.now (search rules) (search rules)) at c.shift_at.ensures in
    rw c.in-Plain.is
    (e ∙ ap (λ b. shift_of c.args.self.now.state b (c.args.reading.sys -ℤ c.args.now) c.args.self.now.offset) c.is_check_due.ensures)

pub returns-in-Force : goal.returns-in-Force
returns-in-Force c =
    rw c.in-Force.is (simp (apart c.args.reading.sys c.args.now (search rules) (search rules)) at c.shift_at-in-Force.ensures)
