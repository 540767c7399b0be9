use Rattle.std.proofs.Common.{rules, FitsSigned, w64, to_z-of_z, ◌≡◌, ◌∙◌}
use Rattle.ert_script.proofs.Answered.{tick_answered, check_answered, finalize_answered, info_answered, convert_answered}
use Rattle.ert_script.proofs.doing.clock_op.Goals as goal

pub returns-in-Tick-clause-answer : goal.returns-in-Tick-clause-answer
returns-in-Tick-clause-answer g c =
    let d = c.args.doer.now in
    let mono : FitsSigned w64 c.in-Tick.mono = search rules in
    let sys : FitsSigned w64 c.in-Tick.sys = search rules in
    rw c.in-Tick.is
    (rw c.ticked.ensures
    (tick_answered (g.D.Doer.settings d) (g.D.Doer.way d) (g.D.Doer.number d) c.args.timer (g.D.Doer.history d) _ c.in-Tick.mono c.in-Tick.sys c.tick.result c.tick.ensures.reads
    (simp to_z-of_z at c.tick.ensures.call)))

pub returns-in-Check-clause-answer : goal.returns-in-Check-clause-answer
returns-in-Check-clause-answer g c =
    let d = c.args.doer.now in
    let mono : FitsSigned w64 c.in-Check.mono = search rules in
    let sys : FitsSigned w64 c.in-Check.sys = search rules in
    rw c.in-Check.is
    (rw c.checked.ensures
    (check_answered (g.D.Doer.settings d) (g.D.Doer.way d) (g.D.Doer.number d) c.args.timer (g.D.Doer.history d) _ c.in-Check.mono c.in-Check.sys c.tick-in-Check.result c.tick-in-Check.ensures.reads
    (simp to_z-of_z at c.tick-in-Check.ensures.call)))

pub returns-in-Finalize-clause-answer : goal.returns-in-Finalize-clause-answer
returns-in-Finalize-clause-answer g c =
    let d = c.args.doer.now in
    let mono : FitsSigned w64 c.in-Finalize.mono = search rules in
    let sys : FitsSigned w64 c.in-Finalize.sys = search rules in
    rw c.in-Finalize.is
    (rw c.finalized.ensures
    (finalize_answered (g.D.Doer.settings d) (g.D.Doer.way d) (g.D.Doer.number d) c.args.timer (g.D.Doer.history d) _ c.in-Finalize.mono c.in-Finalize.sys c.finalize.result c.finalize.ensures.reads
    (simp to_z-of_z at c.finalize.ensures.call)))

pub returns-in-Time-clause-answer : goal.returns-in-Time-clause-answer
returns-in-Time-clause-answer g c =
    let now : FitsSigned w64 c.monotonic_time.result = search rules in
    rw c.in-Time.is (simp to_z-of_z (record { does = λ ls of. c.monotonic_time.ensures.call; fails = λ ls of. tt }))

pub returns-in-System-clause-answer : goal.returns-in-System-clause-answer
returns-in-System-clause-answer g c =
    let time : FitsSigned w64 c.system_time.result = search rules in
    rw c.in-System.is (simp to_z-of_z (record { does = λ ls of. c.system_time.ensures.call; fails = λ ls of. tt }))

pub returns-in-Offset-clause-answer : goal.returns-in-Offset-clause-answer
returns-in-Offset-clause-answer g c =
    let offset : FitsSigned w64 c.time_offset-offset.result.0 = search rules in
    rw c.in-Offset.is (simp to_z-of_z (record { does = λ ls of. c.time_offset-offset.ensures.call; fails = λ ls of. tt }))

pub returns-in-Info-clause-answer : goal.returns-in-Info-clause-answer
returns-in-Info-clause-answer g c =
    let d = c.args.doer.now in
    let offset : FitsSigned w64 c.time_offset-offset-in-Info.result.0 = search rules in
    let same : c.settings.result.now ≡ g.D.Doer.settings d = c.settings.ensures.value ∙ c.time_offset-offset-in-Info.ensures.settings in
    rw c.in-Info.is
    (rw c.settings_told.ensures
    (rw same
    (simp to_z-of_z (info_answered (g.D.Doer.settings d) (g.D.Doer.way d) (g.D.Doer.number d) c.args.timer (g.D.Doer.history d) _ c.time_offset-offset-in-Info.result.0 c.time_offset-offset-in-Info.result.1
    c.time_offset-offset-in-Info.ensures.call))))

pub returns-in-Convert-clause-answer : goal.returns-in-Convert-clause-answer
returns-in-Convert-clause-answer g c =
    let d = c.args.doer.now in
    let time : FitsSigned w64 c.in-Convert.time = search rules in
    rw c.in-Convert.is
    (convert_answered (g.D.Doer.settings d) (g.D.Doer.way d) (g.D.Doer.number d) c.args.timer (g.D.Doer.history d) c.in-Convert.time c.in-Convert.from c.in-Convert.to
    c.convert_time.result (simp to_z-of_z at c.convert_time.ensures))
