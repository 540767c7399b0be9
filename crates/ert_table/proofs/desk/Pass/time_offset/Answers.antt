use Rattle.std.proofs.Common.{subst, refl}
use Rattle.ert_effects.specs.ClockCalls.{TellsOffset}
use Rattle.ert_defs.specs.Entries.{off_entry}
use Rattle.ert_table.specs.{Desks.{settings_of, view_of}, Takes.Appends}
use Rattle.ert_table.proofs.{Makings.step_made, Looks.off_alone}
use Rattle.ert_table.proofs.desk.Pass.time_offset.Goals as goal

pub returns-clause-call : goal.returns-clause-call
returns-clause-call c =
    let g = settings_of c.args.desk.now in
    let v = view_of c.args.self.now in
    let w = view_of c.load_offset.new.self in
    let offset = c.load_offset.result.0 in
    let offset_state = c.load_offset.result.1 in
    let step : Appends g v (off_entry c.args.by offset offset_state) w =
    subst (λ e. Appends g v e w) (off_alone g v.actors c.args.by offset offset_state c.requires.user) c.load_offset.ensures.step in
    step_made g v (off_entry c.args.by offset offset_state) w (TellsOffset g c.args.by c.load_offset.result) refl step
