use Rattle.std.proofs.Common.{rules, FitsSigned, w64, to_z-of_z}
use Rattle.std.specs.Prelude.{ℤ, ◌-ℤ◌, ◌+ℤ◌}
use Rattle.std.specs.Int.{w16, w128}
use Rattle.ert_clock.specs.Faces.{face_of}
use Rattle.ert_defs.proofs.Numbers.{wide}
use Rattle.ert_clock.proofs.{Casts.{wide_sum, wide_error}, Rules.base_is}
use Rattle.ert_clock.proofs.faces.Face.line_from.Goals as goal

pub returns : goal.returns
returns c =
    let n : ℤ = c.args.now in
    let o : ℤ = c.args.self.now.offset in
    let s : ℤ = c.args.reading.sys in
    let n64 : FitsSigned w64 c.args.now = search rules in
    let o64 : FitsSigned w64 c.args.self.now.offset = search rules in
    let s64 : FitsSigned w64 c.args.reading.sys = search rules in
    let m64 : FitsSigned w64 c.mono_after-mono.result = search rules in
    let r64 : FitsSigned w16 c.rate_after.result = search rules in
    let n128 : FitsSigned w128 n = wide n n64 in
    let o128 : FitsSigned w128 o = wide o o64 in
    let s128 : FitsSigned w128 s = wide s s64 in
    let sum : FitsSigned w128 (n +ℤ o) = wide_sum n o n64 o64 in
    let error : FitsSigned w128 (s -ℤ (n +ℤ o)) = wide_error s n o s64 n64 o64 in
    let e = simp to_z-of_z at c.rate_after.ensures in
    simp to_z-of_z
    (base_is c.args.reading c.args.act (face_of c.args.self.now) n c.mono_after-mono.result c.rate_after.result
    c.mono_after-mono.ensures e)
