use Rattle.std.specs.Arc.{arc_value}
use Rattle.ert_tests.proofs.tests.services.open_and_close.Given as goal

abbrev pub ghosts-try_on : goal.ghosts-try_on
ghosts-try_on g a = record { table = (arc_value a.parts.desk).table.shared.table_id; settings = (arc_value a.parts.desk).settings }
