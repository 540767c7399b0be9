use Rattle.std.proofs.Common.{sym, ap, subst, ◌∙◌}
use Rattle.ert_defs.specs.{States.state, Timers.is_taken}
use Rattle.ert_table.specs.Desks.{view_of}
use Rattle.ert_timers.specs.Parts.{Part, PartStands}
use Rattle.ert_timers.proofs.Forgotten.{stands_reused}
use Rattle.ert_timers.proofs.part.WheelPart.reuse.Goals as goal

pub returns-clause-stands : goal.returns-clause-stands
returns-clause-stands c = λ g named.
    let p = c.args.self.now in
    let h = (view_of c.args.pass.now).front in
    subst (λ (q : Part). PartStands g h q) (sym c.free_after.ensures)
    (stands_reused g h p c.args.timer.slot (c.requires.stands g named) c.requires.let_go.low
    (sym (ap (λ r. is_taken ((state g h).status r)) c.requires.let_go.named) ∙ c.requires.handed g named))
