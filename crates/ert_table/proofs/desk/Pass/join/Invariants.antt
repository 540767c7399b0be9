use Rattle.ert_table.specs.Desks.{settings_of}
use Rattle.ert_table.proofs.desk.Pass.join.Given as goal

abbrev pub ghosts-join_as : goal.ghosts-join_as
ghosts-join_as a = record { settings = settings_of a.desk.now }
