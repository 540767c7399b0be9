use Rattle.std.proofs.Common.{subst}
use Rattle.ert_effects.specs.WheelCalls.{MarksExit}
use Rattle.ert_defs.specs.declared.entry.Actor.TheVariants.{Caller}
use Rattle.ert_service.proofs.Chained.{marked}
use Rattle.ert_table.specs.{Calls.IsMade, Desks.view_of}
use Rattle.ert_service.proofs.exits.CallerSession+L+R.mark_exit.Goals as goal

pub returns-clause-exited : goal.returns-clause-exited
returns-clause-exited g c =
    let v = view_of c.args.self.now.seat.pass in
    let w = view_of c.mark_exit.new.self in
    let by = Caller c.args.self.now.seat.number in
    marked g.L.DeskName.settings by c.args.process c.mark_exit.result v w
    (subst (λ t. IsMade t v (MarksExit t by c.args.process c.mark_exit.result) w) c.desk.ensures.settings_is c.mark_exit.ensures.call)
