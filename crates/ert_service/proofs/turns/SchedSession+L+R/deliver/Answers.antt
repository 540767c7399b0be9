use Rattle.ert_effects.specs.Ways.{beside}
use Rattle.ert_defs.specs.declared.entry.Actor.TheVariants.{Sched}
use Rattle.ert_service.proofs.Chained.{deliver_ends}
use Rattle.ert_table.specs.Desks.{front_of}
use Rattle.ert_service.proofs.turns.SchedSession+L+R.deliver.Goals as goal

pub returns-clause-none : goal.returns-clause-none
returns-clause-none g c =
    let s = g.L.DeskName.settings in
    let seat = c.args.self.now.seat in
    deliver_ends s (beside s (Sched seat.part.wheel)) seat.part.wheel c.deliver.result (front_of seat.pass) (front_of c.deliver.new.steps.seat.pass) c.deliver.ensures.call
