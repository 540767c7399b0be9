use Rattle.ert_world.proofs.Divided.{none_given, given_away}
use Rattle.ert_world.proofs.laws.entries_are_divided.Goals as goal

pub returns : goal.returns
returns c = record { none = none_given; seats = given_away }
