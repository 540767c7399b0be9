use Rattle.ert_ops.specs.Races.{race_of}
use Rattle.ert_program.proofs.Rounds.{races_to}
use Rattle.ert_program.specs.Lists.{dids_of}
use Rattle.ert_program.proofs.races.race.race_on.Goals as goal

pub returns : goal.returns
returns g c =
    races_to c.args.world _ c.in_ok-world.field-0.world c.last_round.new.world c.args.known.now (race_of c.args.race.now) (dids_of c.in_ok-world.field-0.lists.items)
    c.into_parts-parts.ensures.same c.in_ok-world.ensures c.in_ok-last_round.ensures
