use Rattle.ert_defs.specs.declared.entry.Actor.TheVariants.{Caller}
use Rattle.ert_service.proofs.Alone.{made_alone}
use Rattle.ert_table.specs.Desks.{view_of}
use Rattle.ert_world.proofs.Noted.{learned_made}
use Rattle.ert_world.specs.Ways.{MakesNone}
use Rattle.ert_service.proofs.noting.CallerSession+L+R.learn.Goals as goal

pub returns-clause-call : goal.returns-clause-call
returns-clause-call g c =
    let seat = c.args.self.now.seat in
    made_alone g.L.DeskName.settings _ (Caller seat.number) MakesNone seat.pass c.learn.new.self c.desk.ensures.settings_is
    seat.sits.actors (learned_made _ (view_of seat.pass) _ (view_of c.learn.new.self) c.learn.ensures.learned)
