use Rattle.std.proofs.Common.{rules, ◌≡◌, ℕ, true, false, Some, ap, subst, sym, ◌∙◌, map, string_bytes}
use Rattle.ert_program.specs.{declared.command.Command.TheVariants.{Live, Stress}, Written.MayWrite, Endings.command_asked, Lives.LiveEnds, Races.{IsReport, RaceWrites}, Runs.RunWrites, Stresses.StressEnds, Streams.{Output, output_of}}
use Rattle.ert_program.specs.{Streams.clock_stream_of, declared.ending.Ended.Ended}
use Rattle.ert_program.proofs.{Ends.{memory_ends, memory_refusal}, Made.stress_ends, Ranges.{of_command, found_is, same_live, same_stress}}
use Rattle.ert_program.proofs.program.ertime.Goals as goal

pub live-requires-clause-some : goal.live-requires-clause-some
live-requires-clause-some g c =
    let is : command_asked c.args.words.now ≡ Some (Live c.in-Some-Live.n) =
    found_is (map string_bytes c.args.words.now) c.in-Ok.command c.in-Some-Live.field-0 (Live c.in-Some-Live.n)
    c.in-Ok.ensures c.in-Some-Live.is (rw c.in-Some-Live.is at c.in-Some-Live.field-0-is) in
    (of_command (map string_bytes c.args.words.now) (Live c.in-Some-Live.n) is).0

pub returns-in-Some-Live-clause-live : goal.returns-in-Some-Live-clause-live
returns-in-Some-Live-clause-live g c = λ n e.
    let is : command_asked c.args.words.now ≡ Some (Live c.in-Some-Live.n) =
    found_is (map string_bytes c.args.words.now) c.in-Ok.command c.in-Some-Live.field-0 (Live c.in-Some-Live.n)
    c.in-Ok.ensures c.in-Some-Live.is (rw c.in-Some-Live.is at c.in-Some-Live.field-0-is) in
    subst (λ (k : ℕ). LiveEnds k (clock_stream_of g.C.OsClock.given g.C.OsClock.left g.C.OsClock.faults c.args.clock.now)
    (clock_stream_of g.C.OsClock.given g.C.OsClock.left g.C.OsClock.faults c.live.new.clock)
    (output_of g.O.Sink.taken g.O.Sink.room g.O.Sink.faults c.args.output.now)
    (output_of g.O.Sink.taken g.O.Sink.room g.O.Sink.faults c.live.new.output) c.live.result)
    (same_live c.in-Some-Live.n n (sym is ∙ e)) c.live.ensures.ends

pub stress-requires-clause-count : goal.stress-requires-clause-count
stress-requires-clause-count g c =
    let is : command_asked c.args.words.now ≡ Some (Stress c.in-Some-Stress.seed c.in-Some-Stress.n) =
    found_is (map string_bytes c.args.words.now) c.in-Ok.command c.in-Some-Stress.field-0 (Stress c.in-Some-Stress.seed c.in-Some-Stress.n)
    c.in-Ok.ensures c.in-Some-Stress.is (rw c.in-Some-Stress.is at c.in-Some-Stress.field-0-is) in
    of_command (map string_bytes c.args.words.now) (Stress c.in-Some-Stress.seed c.in-Some-Stress.n) is

pub returns-in-Some-Stress-clause-stress : goal.returns-in-Some-Stress-clause-stress
returns-in-Some-Stress-clause-stress g c = λ seed n e.
    let made : c.in-Some-Stress.field-0 ≡ Stress c.in-Some-Stress.seed c.in-Some-Stress.n = search rules in
    let is : command_asked c.args.words.now ≡ Some (Stress c.in-Some-Stress.seed c.in-Some-Stress.n) =
    found_is (map string_bytes c.args.words.now) c.in-Ok.command c.in-Some-Stress.field-0 (Stress c.in-Some-Stress.seed c.in-Some-Stress.n)
    c.in-Ok.ensures c.in-Some-Stress.is made in
    let both = same_stress c.in-Some-Stress.seed c.in-Some-Stress.n seed n (sym is ∙ e) in
    let o : Output = output_of g.O.Sink.taken g.O.Sink.room g.O.Sink.faults c.args.output.now in
    let p : Output = output_of g.O.Sink.taken g.O.Sink.room g.O.Sink.faults c.stress.new.output in
    subst (λ (x : ℕ). StressEnds x n o p c.of_run.result) both.0
    (subst (λ (x : ℕ). StressEnds c.in-Some-Stress.seed x o p c.of_run.result) both.1
    (subst (λ (x : Ended). StressEnds c.in-Some-Stress.seed c.in-Some-Stress.n o p x) (sym c.of_run.ensures)
    (stress_ends c.in-Some-Stress.seed c.in-Some-Stress.n o p c.stress.result c.stress.ensures.ok
    (λ how. (c.stress.ensures.cause how, c.stress.ensures.write_fault how))
    (λ how. ap (λ k. output_of g.O.Sink.taken g.O.Sink.room g.O.Sink.faults k) (c.stress.ensures.no_memory how)))))

pub returns-in_default-clause-run : goal.returns-in_default-clause-run
returns-in_default-clause-run g c = λ is. memory_ends RunWrites RunWrites _ _ _ c.without_desk.ensures

pub returns-in_default-clause-race : goal.returns-in_default-clause-race
returns-in_default-clause-race g c = λ is. memory_ends (RaceWrites IsReport) (RaceWrites MayWrite) _ _ _ c.without_desk.ensures

pub returns-in_default-clause-run_refusals : goal.returns-in_default-clause-run_refusals
returns-in_default-clause-run_refusals g c = λ is. memory_refusal false _ _ _ c.without_desk.ensures

pub returns-in_default-clause-race_refusals : goal.returns-in_default-clause-race_refusals
returns-in_default-clause-race_refusals g c = λ is. memory_refusal true _ _ _ c.without_desk.ensures
