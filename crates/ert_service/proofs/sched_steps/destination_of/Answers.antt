use Rattle.ert_service.proofs.Chained.{dest_low}
use Rattle.ert_service.proofs.sched_steps.destination_of.Goals as goal

pub returns-clause-in_range : goal.returns-clause-in_range
returns-clause-in_range g c =
    dest_low g.L.DeskName.settings c.args.seat.now.pass c.args.seat.now.part c.args.expired.now c.args.seat.now.fits.sits.named c.args.seat.now.fits.stands c.requires
