use Rattle.std.proofs.Common.{rules, arith, ◌≡◌, ◌<◌, ◌∙◌, FitsSigned, w64, to_z-of_z, string_bytes}
use Rattle.std.proofs.lemmas.Result.{err_from_is_err_and}
use Rattle.ert_defs.specs.Readings.{IsValid}
use Rattle.ert_io.proofs.SeveralReads.{told_kept}
use Rattle.ert_io.specs.Faults.{Rose}
use Rattle.ert_program.proofs.LivedThrough.{takes_one, takes_next, takes_all, watched_first, watched_more, stopped_first, stopped_later, refused_first, refused_later, watched_all}
use Rattle.ert_program.proofs.living.watch.Goals as goal

pub returns-in_default-clause-ok : goal.returns-in_default-clause-ok
returns-in_default-clause-ok g c =
    let rose : Rose (g.C.OsClock.faults c.args.clock.now) (g.C.OsClock.faults c.read.new.self) = search rules in
    rw c.without_desk.ensures (stopped_first c.args.n _ _ _ (omega arith) (told_kept _ _ _ _ c.in_default.ensures.kept c.in_default.ensures.left_kept) rose c.requires.empty)

pub returns-then-not-is_valid-clause-ok : goal.returns-then-not-is_valid-clause-ok
returns-then-not-is_valid-clause-ok g c =
    let not : IsValid c.in-Ok.first → ⊥ = search rules in
    rw c.without_desk-then-not-is_valid.ensures
    (refused_first c.args.n _ _ _ c.in-Ok.first (omega arith) (record { given = c.in-Ok.ensures.given; left = c.in-Ok.ensures.left }) not (rw c.requires.empty at c.in_ok-write_bad_reading.ensures))

pub readings-init : goal.readings-init
readings-init g c =
    let valid : IsValid c.in-Ok.first = search rules in
    record { so_far = watched_first c.in-Ok.first _ _ _ _ valid (record { given = c.in-Ok.ensures.given; left = c.in-Ok.ensures.left }) c.in_ok-world.ensures; later = c.read.ensures.later }

pub returns-in_default-read-clause-ok : goal.returns-in_default-read-clause-ok
returns-in_default-read-clause-ok g c =
    let below : c.readings.taken < c.args.n = omega arith in
    let rose : Rose (g.C.OsClock.faults c.args.clock.now) (g.C.OsClock.faults c.read-in-readings.new.self) = search rules in
    rw c.without_desk-in_default-read.ensures
    (stopped_later c.args.n _ _ c.readings.taken _ c.readings.world _ below c.readings.invariant.so_far (told_kept _ _ _ _ c.in_default-read.ensures.kept c.in_default-read.ensures.left_kept) rose)

pub returns-then-not-is_valid-2-clause-ok : goal.returns-then-not-is_valid-2-clause-ok
returns-then-not-is_valid-2-clause-ok g c =
    let below : c.readings.taken < c.args.n = omega arith in
    let not : IsValid c.in-Ok-read.reading → ⊥ = search rules in
    rw c.without_desk-then-not-is_valid-2.ensures
    (refused_later c.args.n _ _ c.readings.taken _ c.readings.world _ _ c.in-Ok-read.reading below c.readings.invariant.so_far (record { given = c.in-Ok-read.ensures.given; left = c.in-Ok-read.ensures.left }) not
    c.in_ok-write_bad_reading-2.ensures)

pub go_on-requires-clause-lone : goal.go_on-requires-clause-lone
go_on-requires-clause-lone g c = let lived = c.readings.invariant.so_far.lived in lived.runs.next ∙ lived.opened.next

pub into_desk-requires : goal.into_desk-requires
into_desk-requires g c = let lived = c.readings.invariant.so_far.lived in lived.runs.next ∙ lived.opened.next

pub readings-preserved : goal.readings-preserved
readings-preserved g c =
    let valid : IsValid c.in-Ok-read.reading = search rules in
    let far = c.readings.invariant.so_far in
    record {
      so_far = watched_more c.readings.taken _ _ _ c.readings.world c.go_on.new.world _ _ c.in-Ok-read.reading c.readings.invariant.so_far valid
          (record { given = c.in-Ok-read.ensures.given; left = c.in-Ok-read.ensures.left }) (c.in_ok-go_on.ensures far.first far.others far.lived);
      later = omega (arith, c.readings.invariant.later, c.read-in-readings.ensures.later);
    }

pub returns-clause-ok : goal.returns-clause-ok
returns-clause-ok g c =
    let all : c.readings.taken ≡ c.args.n = omega arith in
    let now : FitsSigned w64 c.published.result = search rules in
    let last = simp to_z-of_z at c.in_ok-write_end.ensures in
    watched_all c.args.n _ _ c.readings.taken c.readings.world (string_bytes c.readings.page) _ c.into_desk.result all c.readings.invariant.so_far
    (rw c.published.ensures at last) c.into_desk.ensures.settings c.into_desk.ensures.history c.into_desk.ensures.laws

pub returns-in_err-write_bad_reading-clause-err : goal.returns-in_err-write_bad_reading-clause-err
returns-in_err-write_bad_reading-clause-err g c =
    let p = err_from_is_err_and c.from_residual.result c.from_residual.ensures.1 in
    rw p.1 (takes_one c.args.n c.in-Ok.first _ _ c.requires.some (record { given = c.in-Ok.ensures.given; left = c.in-Ok.ensures.left }))

pub returns-in_err-world-clause-err : goal.returns-in_err-world-clause-err
returns-in_err-world-clause-err g c =
    let p = err_from_is_err_and c.from_residual-in_err-world.result c.from_residual-in_err-world.ensures.1 in
    rw p.1 (takes_one c.args.n c.in-Ok.first _ _ c.requires.some (record { given = c.in-Ok.ensures.given; left = c.in-Ok.ensures.left }))

pub returns-in_err-write_bad_reading-2-clause-err : goal.returns-in_err-write_bad_reading-2-clause-err
returns-in_err-write_bad_reading-2-clause-err g c =
    let below : c.readings.taken < c.args.n = omega arith in
    let p = err_from_is_err_and c.from_residual-in_err-write_bad_reading-2.result c.from_residual-in_err-write_bad_reading-2.ensures.1 in
    rw p.1 (takes_next c.args.n c.readings.taken _ _ _ c.readings.world _ c.in-Ok-read.reading below c.readings.invariant.so_far (record { given = c.in-Ok-read.ensures.given; left = c.in-Ok-read.ensures.left }))

pub returns-in_err-go_on-clause-err : goal.returns-in_err-go_on-clause-err
returns-in_err-go_on-clause-err g c =
    let below : c.readings.taken < c.args.n = omega arith in
    let p = err_from_is_err_and c.from_residual-in_err-go_on.result c.from_residual-in_err-go_on.ensures.1 in
    rw p.1 (takes_next c.args.n c.readings.taken _ _ _ c.readings.world _ c.in-Ok-read.reading below c.readings.invariant.so_far (record { given = c.in-Ok-read.ensures.given; left = c.in-Ok-read.ensures.left }))

pub returns-in_err-write_end-clause-err : goal.returns-in_err-write_end-clause-err
returns-in_err-write_end-clause-err g c =
    let all : c.readings.taken ≡ c.args.n = omega arith in
    let p = err_from_is_err_and c.from_residual-in_err-write_end.result c.from_residual-in_err-write_end.ensures.1 in
    rw p.1 (takes_all c.args.n c.readings.taken _ _ c.readings.world _ all c.readings.invariant.so_far)
