use Rattle.std.proofs.Common.{rules, to_z-of_z}
use Rattle.ert_clock.proofs.Casts.{LineFits, line_fits}
use Rattle.ert_clock.proofs.faces.Line.time_at.Goals as goal

pub gained-requires : goal.gained-requires
gained-requires c =
    let f = line_fits c.args.self.now.time c.args.mono c.args.self.now.mono c.args.self.now.rate (search rules) (search rules) (search rules) (search rules) in
    simp (f.distance, f.rate) f.product

fits : (c : goal.After-gained) → LineFits c.args.self.now.time c.args.mono c.args.self.now.mono c.args.self.now.rate
fits c = line_fits _ _ _ _ (search rules) (search rules) (search rules) (search rules)

pub overflow_add-result-2 : goal.overflow_add-result-2
overflow_add-result-2 c =
    let f = fits c in
    let e = simp (f.distance, f.rate) at c.gained.ensures in
    rw e (simp (f.start, f.distance, to_z-of_z f.plain, to_z-of_z f.floor) f.time)

pub returns : goal.returns
returns c =
    let f = fits c in
    let e = simp (f.distance, f.rate) at c.gained.ensures in
    rw e (simp (f.start, f.distance, to_z-of_z f.plain, to_z-of_z f.floor, to_z-of_z f.time))
