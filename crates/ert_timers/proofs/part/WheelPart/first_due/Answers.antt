use Rattle.std.proofs.Common.{subst}
use Rattle.ert_timers.specs.{NextDue.IsNextHeld, Parts.Part}
use Rattle.ert_timers.proofs.part.WheelPart.first_due.Goals as goal

pub returns-clause-held : goal.returns-clause-held
returns-clause-held c = subst (λ (p : Part). IsNextHeld p c.next_due.result) c.self.view_is c.next_due.ensures.due
