use Rattle.std.proofs.Common.{rules, FitsSigned, w64, to_z-of_z}
use Rattle.std.specs.Prelude.{ℤ, ◌-ℤ◌}
use Rattle.std.specs.Int.{w128}
use Rattle.ert_clock.specs.Faces.{face_of}
use Rattle.ert_defs.proofs.Numbers.{wide, wide_difference}
use Rattle.ert_clock.proofs.Rules.{off_line}
use Rattle.ert_clock.proofs.faces.Face.time_after.Goals as goal

pub returns-else-settings : goal.returns-else-settings
returns-else-settings c =
    let t : ℤ = c.args.self.now.time in
    let s : ℤ = c.args.reading.sys in
    let o : ℤ = c.args.self.now.offset in
    let t64 : FitsSigned w64 c.args.self.now.time = search rules in
    let s64 : FitsSigned w64 c.args.reading.sys = search rules in
    let o64 : FitsSigned w64 c.args.self.now.offset = search rules in
    let t128 : FitsSigned w128 t = wide t t64 in
    let s128 : FitsSigned w128 s = wide s s64 in
    let o128 : FitsSigned w128 o = wide o o64 in
    let distance : FitsSigned w128 (s -ℤ o) = wide_difference s o s64 o64 in
    let m : FitsSigned w128 c.max.result = search rules in
    let e = simp to_z-of_z at c.max.ensures.value in
    simp to_z-of_z
    (off_line c.args.settings.now (face_of c.args.self.now) c.args.reading c.max.result c.if-settings.false e)
