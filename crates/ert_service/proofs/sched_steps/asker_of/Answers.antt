use Rattle.ert_service.proofs.Chained.{asker_low}
use Rattle.ert_service.proofs.sched_steps.asker_of.Goals as goal

pub returns-clause-in_range : goal.returns-clause-in_range
returns-clause-in_range g c =
    asker_low g.L.DeskName.settings c.args.seat.now.pass c.args.seat.now.part c.args.request.now c.args.seat.now.fits.sits.named c.args.seat.now.fits.stands c.requires
