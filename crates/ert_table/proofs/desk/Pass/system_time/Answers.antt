use Rattle.std.proofs.Common.{sym, subst, refl, rules, ℤ, ◌+ℤ◌, ◌∷◌, [], FitsSigned, w64, to_z-of_z}
use Rattle.ert_defs.specs.{Entries.{look_entry, off_entry}, States.state}
use Rattle.ert_table.specs.{Desks.{settings_of, view_of}, Takes.Appends}
use Rattle.ert_table.proofs.{Calls.{step_takes_place, takes_place_then}, Looks.{off_alone, read_sum_fits}}
use Rattle.ert_table.proofs.desk.Pass.system_time.Goals as goal

reads_offset : (c : goal.After-struct_told-1)
    → Appends (settings_of c.args.desk.now) (view_of c.look-now.new.self) (off_entry c.args.by c.load_offset-offset.result.0 c.load_offset-offset.result.1)
    (view_of c.load_offset-offset.new.self)
reads_offset c =
    subst (λ e. Appends (settings_of c.args.desk.now) (view_of c.look-now.new.self) e (view_of c.load_offset-offset.new.self))
    (off_alone (settings_of c.args.desk.now) (view_of c.look-now.new.self).actors c.args.by c.load_offset-offset.result.0 c.load_offset-offset.result.1
    c.requires.user) c.load_offset-offset.ensures.step

pub overflow_add-result : goal.overflow_add-result
overflow_add-result c =
    let g = settings_of c.args.desk.now in
    let u = view_of c.look-now.new.self in
    let offset : ℤ = c.load_offset-offset.result.0 in
    let now_fits : FitsSigned w64 c.look-now.result = search rules in
    let offset_fits : FitsSigned w64 c.load_offset-offset.result.0 = search rules in
    let sum = read_sum_fits g u (off_entry c.args.by offset c.load_offset-offset.result.1) (view_of c.load_offset-offset.new.self) (reads_offset c)
    c.args.desk.now.checked in
    simp to_z-of_z (subst (λ (x : ℤ). FitsSigned w64 (x +ℤ offset)) (sym c.look-now.ensures.time)
    (subst (λ (y : ℤ). FitsSigned w64 ((state g u.front).clock.now +ℤ y)) (sym c.load_offset-offset.ensures.offset) sum))

pub returns-clause-call : goal.returns-clause-call
returns-clause-call c =
    let now : ℤ = c.look-now.result in
    let offset : ℤ = c.load_offset-offset.result.0 in
    let now_fits : FitsSigned w64 c.look-now.result = search rules in
    let offset_fits : FitsSigned w64 c.load_offset-offset.result.0 = search rules in
    let sum_fits : FitsSigned w64 (now +ℤ offset) = simp to_z-of_z at (overflow_add-result c) in
    record {
      entries = look_entry c.args.by now ∷ (off_entry c.args.by offset c.load_offset-offset.result.1 ∷ []);
      allowed = record { now = now; offset = offset; offset_state = c.load_offset-offset.result.1; sum = simp to_z-of_z; entries = refl };
      call = takes_place_then (settings_of c.args.desk.now) (view_of c.args.self.now) (view_of c.look-now.new.self) (view_of c.load_offset-offset.new.self)
          (look_entry c.args.by now ∷ []) (off_entry c.args.by offset c.load_offset-offset.result.1 ∷ [])
          (step_takes_place _ _ (look_entry c.args.by now) _ c.look-now.ensures.step)
          (step_takes_place _ _ (off_entry c.args.by offset c.load_offset-offset.result.1) _ (reads_offset c));
    }
