use Rattle.std.proofs.Common.{rules, None, sym, refl, ◌∙◌, ap, subst, FitsSigned, w64, to_z-of_z}
use Rattle.std.specs.Prelude.{Ok, Err}
use Rattle.std.proofs.lemmas.Result.{err_from_is_err_and}
use Rattle.ert_defs.specs.{Lines.{Face, shifted}, declared.settings.Settings.Settings}
use Rattle.ert_clock.specs.{Faces.face_of, Shown.Shown, Ticks.{Limits, Gives}}
use Rattle.ert_clock.proofs.Steps.{Done, refuses, done_keeps, done_gives, quiet}
use Rattle.ert_clock.proofs.clock.Clock.step.Goals as goal

pub time_after-now-requires-clause-valid : goal.time_after-now-requires-clause-valid
time_after-now-requires-clause-valid c = c.if-not-is_valid.ensures.0 refl

pub returns-in_err-shift : goal.returns-in_err-shift
returns-in_err-shift c =
    let g : Settings = c.self.inside.settings in
    let f : Face = face_of c.self.inside.face in
    let now : FitsSigned w64 c.time_after-now.result = search rules in
    let due = simp to_z-of_z at c.due_after.ensures in
    let limits : Limits c.due_after.result (Err c.in_err-shift.field-0.0) = c.in_err-shift.ensures in
    let p = err_from_is_err_and c.from_residual.result c.from_residual.ensures.1 in
    rw (p.1, p.2)
    (subst (λ (v : Shown). Gives v c.args.reading c.args.act (Err c.in_err-shift.field-0.0) v) c.self.view_is
    (refuses g f c.args.reading c.args.act c.time_after-now.result c.due_after.result c.in_err-shift.field-0.0
    (record { valid = c.if-not-is_valid.ensures.0 refl; told = c.time_after-now.ensures; due_is = due }) limits))

done : (c : goal.After-offset_of)
    → Done c.self.inside.settings (face_of c.self.inside.face) c.args.reading c.args.act c.time_after-now.result c.due_after.result c.in_ok-shift.shift
    (face_of c.shift.new.self)
done c =
    let now : FitsSigned w64 c.time_after-now.result = search rules in
    let ticked = simp to_z-of_z at c.tick.ensures in
    record {
      computed = record {
        valid = c.if-not-is_valid.ensures.0 refl;
        told = c.time_after-now.ensures;
        due_is = simp to_z-of_z at c.due_after.ensures;
      };
      limits = c.in_ok-shift.ensures;
      next_is = c.shift.ensures ∙ ap (λ (x : Face). shifted x c.in_ok-shift.shift) ticked;
    }

pub invariant_of-self-2 : goal.invariant_of-self-2
invariant_of-self-2 c =
    done_keeps c.self.inside.settings (face_of c.self.inside.face) c.args.reading c.args.act c.time_after-now.result c.due_after.result
    c.in_ok-shift.shift (face_of c.shift.new.self) c.self.invariant (done c)

pub returns : goal.returns
returns c =
    let g : Settings = c.self.inside.settings in
    let next : Face = face_of c.shift.new.self in
    let now : FitsSigned w64 c.time_after-now.result = search rules in
    simp to_z-of_z
    (subst (λ (v : Shown). Gives v c.args.reading c.args.act
    (Ok (record { now = c.time_after-now.result; shift = c.offset_of.result }))
    (record { settings = g; face = next }))
    c.self.view_is
    (done_gives g (face_of c.self.inside.face) c.args.reading c.args.act c.time_after-now.result c.due_after.result c.in_ok-shift.shift next
    c.offset_of.result c.offset_of.ensures (done c)))

ran : (c : goal.After-run)
    → Done c.self.inside.settings (face_of c.self.inside.face) c.args.reading c.args.act c.time_after-now.result None None (face_of c.run.new.self)
ran c =
    let now : FitsSigned w64 c.time_after-now.result = search rules in
    quiet c.self.inside.settings (face_of c.self.inside.face) c.args.reading c.args.act c.time_after-now.result (face_of c.run.new.self)
    (c.if-not-is_valid.ensures.0 refl) c.time_after-now.ensures (sym c.ends_line.ensures ∙ c.if-not-ends_line.true) (simp to_z-of_z at c.run.ensures)

pub invariant_of-self : goal.invariant_of-self
invariant_of-self c =
    done_keeps c.self.inside.settings (face_of c.self.inside.face) c.args.reading c.args.act c.time_after-now.result None None
    (face_of c.run.new.self) c.self.invariant (ran c)

pub returns-then-not-ends_line : goal.returns-then-not-ends_line
returns-then-not-ends_line c =
    let g : Settings = c.self.inside.settings in
    let next : Face = face_of c.run.new.self in
    let now : FitsSigned w64 c.time_after-now.result = search rules in
    simp to_z-of_z
    (subst (λ (v : Shown). Gives v c.args.reading c.args.act
    (Ok (record { now = c.time_after-now.result; shift = None }))
    (record { settings = g; face = next }))
    c.self.view_is
    (done_gives g (face_of c.self.inside.face) c.args.reading c.args.act c.time_after-now.result None None next None refl (ran c)))
