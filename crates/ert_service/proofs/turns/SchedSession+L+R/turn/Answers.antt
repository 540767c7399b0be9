use Rattle.ert_defs.specs.declared.entry.Actor.TheVariants.{Sched}
use Rattle.ert_service.proofs.Chained.{turn_ends}
use Rattle.ert_table.specs.Desks.{front_of}
use Rattle.ert_service.proofs.turns.SchedSession+L+R.turn.Goals as goal

pub returns-clause-none : goal.returns-clause-none
returns-clause-none g c =
    let seat = c.args.self.now.seat in
    turn_ends g.L.DeskName.settings (Sched seat.part.wheel) seat.part.wheel c.turn.result (front_of seat.pass) (front_of c.turn.new.steps.seat.pass) c.turn.ensures.call
