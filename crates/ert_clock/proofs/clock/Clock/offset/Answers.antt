use Rattle.std.proofs.Common.{arith, subst, ◌+ℤ◌, FitsSigned, w64}
use Rattle.std.proofs.lemmas.Int.{ints}
use Rattle.ert_defs.proofs.Bounds.{sum_fits}
use Rattle.ert_clock.specs.{Faces.face_of, Shown.Shown}
use Rattle.ert_clock.proofs.clock.Clock.offset.Goals as goal

pub returns-clause-sum : goal.returns-clause-sum
returns-clause-sum c =
    let k = c.self.invariant in
    let f = face_of c.self.inside.face in
    subst (λ (v : Shown). FitsSigned w64 (v.face.time +ℤ v.face.offset)) c.self.view_is
    (sum_fits c.self.inside.settings f f.time k.checked k.sound (omega (arith, ints, k.sound.start, k.sound.now)) (omega (arith, ints)))
