use Rattle.std.proofs.Common.{◌∙◌}
use Rattle.std.proofs.lemmas.Result.{err_from_is_err_and}
use Rattle.ert_ops.specs.Races.{race_of}
use Rattle.ert_program.proofs.Written.{lines_fit, stops_behind, page_fits, breaks, ends}
use Rattle.ert_program.specs.Lists.{dids_of}
use Rattle.ert_program.proofs.races.run.run_race.Goals as goal

pub run_ops-requires-clause-fits : goal.run_ops-requires-clause-fits
run_ops-requires-clause-fits g c = lines_fit c.in-Ok.world c.new-labels.result c.args.ops.now (g.O.Sink.room c.args.output.now) c.requires.room

pub race_on-requires-clause-lone : goal.race_on-requires-clause-lone
race_on-requires-clause-lone g c = λ κs bounds. c.in_ok-run_ops.ensures.ok.runs.next ∙ c.in-Ok.ensures.next

pub returns-in_default-race_on-clause-err : goal.returns-in_default-race_on-clause-err
returns-in_default-race_on-clause-err g c =
    stops_behind c.args.settings.now c.args.ops.now (race_of c.args.race.now) c.in-Ok.world c.run_ops.new.world c.run_ops.new.labels _ _ c.in-Ok.ensures
    (rw c.new-labels.ensures at c.in_ok-run_ops.ensures.ok)

pub returns-in_default-report_page-clause-err : goal.returns-in_default-report_page-clause-err
returns-in_default-report_page-clause-err g c =
    stops_behind c.args.settings.now c.args.ops.now (race_of c.args.race.now) c.in-Ok.world c.run_ops.new.world c.run_ops.new.labels _ _ c.in-Ok.ensures
    (rw c.new-labels.ensures at c.in_ok-run_ops.ensures.ok)

pub write_page-requires : goal.write_page-requires
write_page-requires g c =
    page_fits c.in-Ok.world c.run_ops.new.world c.new-labels.result c.run_ops.new.labels c.args.ops.now _ _ _ c.in_ok-run_ops.ensures.ok c.requires.room

pub returns-in_err-write_page-clause-err : goal.returns-in_err-write_page-clause-err
returns-in_err-write_page-clause-err g c =
    let p = err_from_is_err_and c.from_residual-in_err-write_page.result c.from_residual-in_err-write_page.ensures.1 in
    rw p.1
    (breaks c.args.settings.now c.args.ops.now (race_of c.args.race.now) c.in-Ok.world c.run_ops.new.world c.in-Ok-race_on.end.world c.run_ops.new.labels
    (dids_of c.in-Ok-race_on.end.lists.items) _ _ _ _ c.in-Ok.ensures (rw c.new-labels.ensures at c.in_ok-run_ops.ensures.ok) c.in-Ok-race_on.ensures
    c.history_stands.ensures c.in-Ok-report_page.ensures c.in_err-write_page.ensures.err)

pub into_desk-requires : goal.into_desk-requires
into_desk-requires g c = c.in-Ok-race_on.ensures.next ∙ c.in_ok-run_ops.ensures.ok.runs.next ∙ c.in-Ok.ensures.next

pub returns-clause-ok : goal.returns-clause-ok
returns-clause-ok g c =
    ends c.args.settings.now c.args.ops.now (race_of c.args.race.now) c.in-Ok.world c.run_ops.new.world c.in-Ok-race_on.end.world c.run_ops.new.labels
    (dids_of c.in-Ok-race_on.end.lists.items) _ _ _ _ _ c.in-Ok.ensures (rw c.new-labels.ensures at c.in_ok-run_ops.ensures.ok) c.in-Ok-race_on.ensures
    c.history_stands.ensures c.in-Ok-report_page.ensures c.in_ok-write_page.ensures.ok c.into_desk.ensures.settings c.into_desk.ensures.history
    c.into_desk.ensures.laws
