use Rattle.std.proofs.Common.{rules}
use Rattle.ert_clock.specs.Faces.{face_of}
use Rattle.ert_clock.proofs.{Casts.apart, Rules.due_is}
use Rattle.ert_clock.proofs.faces.Face.is_check_due.Goals as goal

pub returns-then-settings : goal.returns-then-settings
returns-then-settings c =
    simp (apart c.mono_after.result c.args.self.now.line.mono (search rules) (search rules))
    (due_is c.args.settings.now (face_of c.args.self.now) c.args.reading c.mono_after.result c.if-settings.true c.mono_after.ensures)
