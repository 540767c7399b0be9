use Rattle.std.proofs.Common.{rules, refl, arith, FitsSigned, w64, to_z-of_z}
use Rattle.std.proofs.lemmas.Int.{ints}
use Rattle.std.specs.Prelude.{ℤ, pos, ◌-ℤ◌, ◌+ℤ◌}
use Rattle.std.specs.Int.{w128, int_div_euclid}
use Rattle.ert_defs.proofs.Numbers.{wide, wide_difference, floor_low, floor_high}
use Rattle.ert_defs.proofs.milliseconds.up.Goals as goal

pub returns : goal.returns
returns c =
    let t : ℤ = c.args.time in
    let s : ℤ = c.args.settings.now.start in
    let t64 : FitsSigned w64 c.args.time = search rules in
    let s64 : FitsSigned w64 c.args.settings.now.start = search rules in
    let t128 : FitsSigned w128 t = wide t t64 in
    let s128 : FitsSigned w128 s = wide s s64 in
    let d : FitsSigned w128 (t -ℤ s) = wide_difference t s t64 s64 in
    let n : ℤ = (t -ℤ s) +ℤ pos 999999 in
    let n128 : FitsSigned w128 n = omega (arith, ints) in
    let low = floor_low n in
    let high = floor_high n in
    let r : FitsSigned w64 (int_div_euclid n (pos 1000000)) = omega (arith, ints, low, high) in
    let r128 : FitsSigned w128 (int_div_euclid n (pos 1000000)) = wide _ r in
    let e = simp to_z-of_z at c.millionth.ensures in
    rw e (simp to_z-of_z (record { value = refl; fits = r }))
