use Rattle.std.proofs.Common.{rules, ◌≡◌, ℕ, List, string_bytes, subst}
use Rattle.ert_defs.specs.States.{state}
use Rattle.ert_program.specs.{Generated.generated, Stresses.summary_of}
use Rattle.ert_io.specs.Told.{sink_told, took, TakesFront}
use Rattle.ert_laws.specs.Counts.{counts_of}
use Rattle.ert_program.proofs.Made.{counts_on, summary_stops}
use Rattle.ert_program.proofs.stressing.stress.Goals as goal

pub returns-in-Ok-write_page-clause-ok : goal.returns-in-Ok-write_page-clause-ok
returns-in-Ok-write_page-clause-ok g c =
    let bytes : string_bytes c.write_summary.new.page
    ≡ summary_of (counts_of c.in-Ok.world.settings (state c.in-Ok.world.settings c.in-Ok.world.history)) c.in-Ok.world.clock.face.time = search rules in
    counts_on (generated c.args.seed c.args.n) c.in-Ok.world _ _ _ c.in-Ok.ensures
    (subst (λ (t : List ℕ). sink_told (g.O.Sink.taken c.write_page.new.output) (g.O.Sink.room c.write_page.new.output)
    ≡ took (sink_told (g.O.Sink.taken c.args.output.now) (g.O.Sink.room c.args.output.now)) t) bytes c.in-Ok-write_page.ensures.ok)
    c.into_desk.ensures.settings c.into_desk.ensures.history c.into_desk.ensures.laws

pub returns-in-Err-clause-write_fault : goal.returns-in-Err-clause-write_fault
returns-in-Err-clause-write_fault g c = λ how.
    let bytes : string_bytes c.write_summary.new.page
    ≡ summary_of (counts_of c.in-Ok.world.settings (state c.in-Ok.world.settings c.in-Ok.world.history)) c.in-Ok.world.clock.face.time = search rules in
    summary_stops (generated c.args.seed c.args.n) c.in-Ok.world _ _ c.in-Ok.ensures
    (subst (λ (t : List ℕ). TakesFront (sink_told (g.O.Sink.taken c.args.output.now) (g.O.Sink.room c.args.output.now))
    (sink_told (g.O.Sink.taken c.write_page.new.output) (g.O.Sink.room c.write_page.new.output)) t) bytes c.in-Err.ensures.err)
