use Rattle.std.proofs.Common.{not, [], subst}
use Rattle.std.specs.Bool.{OnTrue}
use Rattle.ert_timers.proofs.Dues.{idle_is}
use Rattle.ert_timers.proofs.part.WheelPart.is_idle.Goals as goal
use Rattle.ert_timers.specs.{Expiring.AreDue, Parts.Part}

pub returns : goal.returns
returns c =
    subst (λ (p : Part). OnTrue (not c.may_be_due.result) (AreDue p c.args.to [])) c.self.view_is
    (idle_is _ c.args.to c.may_be_due.result c.may_be_due.ensures)
