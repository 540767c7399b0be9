use Rattle.std.proofs.Common.{rules, refl, FitsSigned, w64, to_z-of_z}
use Rattle.ert_effects.specs.ClockCalls.{TellsTime}
use Rattle.ert_defs.specs.Entries.{look_entry}
use Rattle.ert_table.specs.Desks.{settings_of, view_of}
use Rattle.ert_table.proofs.Makings.{step_made}
use Rattle.ert_table.proofs.desk.Pass.monotonic_time.Goals as goal

pub returns-clause-call : goal.returns-clause-call
returns-clause-call c =
    let g = settings_of c.args.desk.now in
    let fits : FitsSigned w64 c.look.result = search rules in
    simp to_z-of_z
    (step_made g (view_of c.args.self.now) (look_entry c.args.by c.look.result) (view_of c.look.new.self)
    (TellsTime g c.args.by c.look.result) refl c.look.ensures.step)
