use Rattle.std.proofs.Common.{false, not, ◌∷◌, [], ap}
use Rattle.ert_effects.specs.WheelCalls.{TellsAlive}
use Rattle.ert_defs.specs.Entries.{mark_entry}
use Rattle.ert_table.specs.Desks.{settings_of, view_of}
use Rattle.ert_table.proofs.{Makings.step_made, Looks.not-not}
use Rattle.ert_table.proofs.desk.Pass.is_alive.Goals as goal

pub returns-clause-call : goal.returns-clause-call
returns-clause-call c =
    step_made (settings_of c.args.desk.now) (view_of c.args.self.now) (mark_entry c.args.by c.args.process false c.mark.result) (view_of c.mark.new.self)
    (TellsAlive (settings_of c.args.desk.now) c.args.by c.args.process (not c.mark.result))
    (ap (λ b. mark_entry c.args.by c.args.process false b ∷ []) (not-not c.mark.result)) c.mark.ensures.step
