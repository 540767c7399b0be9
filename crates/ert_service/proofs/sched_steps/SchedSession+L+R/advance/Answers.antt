use Rattle.ert_defs.specs.declared.entry.Actor.TheVariants.{Sched}
use Rattle.ert_service.proofs.Settling.{due_in}
use Rattle.ert_table.specs.Desks.{front_of}
use Rattle.ert_service.proofs.sched_steps.SchedSession+L+R.advance.Goals as goal

pub returns-clause-due : goal.returns-clause-due
returns-clause-due g c =
    let n = c.args.self.now.seat.part.wheel in
    due_in g.L.DeskName.settings (Sched n) n c.advance.result (front_of c.args.self.now.seat.pass) c.advance.new.seat.pass
    c.advance.new.seat.fits.sits.named c.advance.ensures.call
