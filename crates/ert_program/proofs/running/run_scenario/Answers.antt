use Rattle.std.proofs.Common.{rules, List, [], ℤ, length, sym, subst, ◌∙◌, FitsSigned, w64, to_z-of_z}
use Rattle.std.proofs.lemmas.Result.{err_from_is_err_and}
use Rattle.ert_io.specs.{Known.HasRoomFor, Told.sink_told}
use Rattle.ert_scenario.specs.Scenarios.{plan_of}
use Rattle.ert_ops.specs.{declared.op.Op.Op, Texts.end_line}
use Rattle.ert_script.specs.Written.{WritesRun, WritesSome, LinesFit}
use Rattle.ert_program.proofs.Transcripts.{ends, breaks_last, breaks, lines_fit, end_fits}
use Rattle.ert_program.proofs.running.run_scenario.Goals as goal

pub run_ops-requires-clause-fits : goal.run_ops-requires-clause-fits
run_ops-requires-clause-fits g c =
    rw c.new-labels.ensures
    (subst (λ (ops : List Op). LinesFit c.in-Ok.world [] ops (g.O.Sink.room c.args.output.now)) (sym c.deref.ensures.value)
    (lines_fit (plan_of c.args.scenario.now) c.in-Ok.world (g.O.Sink.room c.args.output.now) c.requires.labels c.requires.looks c.in-Ok.ensures c.requires.fits))

pub finish-requires : goal.finish-requires
finish-requires g c =
    let now : FitsSigned w64 c.published.result = search rules in
    let ran = subst (λ (ops : List Op). WritesRun c.in-Ok.world [] ops c.run_ops.new.world c.run_ops.new.labels
    (sink_told (g.O.Sink.taken c.args.output.now) (g.O.Sink.room c.args.output.now))
    (sink_told (g.O.Sink.taken c.run_ops.new.sink) (g.O.Sink.room c.run_ops.new.sink))) c.deref.ensures.value
    (rw c.new-labels.ensures at c.in_ok-run_ops.ensures.ok) in
    simp to_z-of_z
    (subst (λ (t : ℤ). HasRoomFor (g.O.Sink.room c.run_ops.new.sink) (length (end_line t))) (sym c.published.ensures)
    (end_fits (plan_of c.args.scenario.now) c.in-Ok.world c.run_ops.new.world c.run_ops.new.labels _ _ c.requires.labels c.requires.looks c.in-Ok.ensures ran c.requires.fits))

pub returns-in_err-run_ops-clause-err : goal.returns-in_err-run_ops-clause-err
returns-in_err-run_ops-clause-err g c =
    let p = err_from_is_err_and c.from_residual.result c.from_residual.ensures.1 in
    rw p.1
    (breaks (plan_of c.args.scenario.now) c.in-Ok.world c.run_ops.new.world c.run_ops.new.labels _ _ _ c.requires.labels c.requires.looks c.in-Ok.ensures
    (subst (λ (ops : List Op). WritesSome c.in-Ok.world [] ops c.run_ops.new.world c.run_ops.new.labels c.in_err-run_ops.field-0.0
    (sink_told (g.O.Sink.taken c.args.output.now) (g.O.Sink.room c.args.output.now)) (sink_told (g.O.Sink.taken c.run_ops.new.sink) (g.O.Sink.room c.run_ops.new.sink)))
    c.deref.ensures.value (rw c.new-labels.ensures at c.in_err-run_ops.ensures.err)))

pub returns-in_err-finish-clause-err : goal.returns-in_err-finish-clause-err
returns-in_err-finish-clause-err g c =
    let now : FitsSigned w64 c.published.result = search rules in
    let told_last = simp to_z-of_z at c.in_err-finish.ensures.err in
    let ran = subst (λ (ops : List Op). WritesRun c.in-Ok.world [] ops c.run_ops.new.world c.run_ops.new.labels
    (sink_told (g.O.Sink.taken c.args.output.now) (g.O.Sink.room c.args.output.now))
    (sink_told (g.O.Sink.taken c.run_ops.new.sink) (g.O.Sink.room c.run_ops.new.sink))) c.deref.ensures.value
    (rw c.new-labels.ensures at c.in_ok-run_ops.ensures.ok) in
    let p = err_from_is_err_and c.from_residual-in_err-finish.result c.from_residual-in_err-finish.ensures.1 in
    rw p.1
    (breaks_last (plan_of c.args.scenario.now) c.in-Ok.world c.run_ops.new.world c.run_ops.new.labels _ _ _ c.requires.labels c.requires.looks c.in-Ok.ensures ran (rw c.published.ensures at told_last))

pub returns-clause-ok : goal.returns-clause-ok
returns-clause-ok g c =
    let now : FitsSigned w64 c.published.result = search rules in
    let told_last = simp to_z-of_z at c.in_ok-finish.ensures.ok in
    let ran = subst (λ (ops : List Op). WritesRun c.in-Ok.world [] ops c.run_ops.new.world c.run_ops.new.labels
    (sink_told (g.O.Sink.taken c.args.output.now) (g.O.Sink.room c.args.output.now))
    (sink_told (g.O.Sink.taken c.run_ops.new.sink) (g.O.Sink.room c.run_ops.new.sink))) c.deref.ensures.value
    (rw c.new-labels.ensures at c.in_ok-run_ops.ensures.ok) in
    ends (plan_of c.args.scenario.now) c.in-Ok.world c.run_ops.new.world c.run_ops.new.labels _ _ _ _ c.in-Ok.ensures ran (rw c.published.ensures at told_last)
    c.into_desk.ensures.settings c.into_desk.ensures.history c.into_desk.ensures.laws

pub into_desk-requires : goal.into_desk-requires
into_desk-requires g c = c.in_ok-run_ops.ensures.ok.runs.next ∙ c.in-Ok.ensures.next
