use Rattle.std.proofs.Common.{sym, subst, FitsSigned, w64, to_z-of_z}
use Rattle.std.specs.Prelude.{ℤ}
use Rattle.ert_defs.proofs.Numbers.{wide}
use Rattle.ert_clock.specs.Faces.{face_of}
use Rattle.ert_clock.proofs.Rules.{after_fits}
use Rattle.ert_clock.proofs.clock.time_after.Goals as goal

fits : (c : goal.After-time_after) → FitsSigned w64 c.time_after.result
fits c =
    subst (λ (x : ℤ). FitsSigned w64 x) (sym c.time_after.ensures)
    (after_fits c.args.settings.now (face_of c.args.face.now) c.args.reading c.requires.kept c.requires.valid)

pub overflow_cast-result : goal.overflow_cast-result
overflow_cast-result c = simp (to_z-of_z (wide _ (fits c))) (fits c)

pub returns : goal.returns
returns c = simp (to_z-of_z (wide _ (fits c)), to_z-of_z (fits c)) c.time_after.ensures
