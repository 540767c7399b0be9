use Rattle.std.specs.Arc.{arc_value}
use Rattle.ert_program.proofs.races.race.race_on.Given as goal

abbrev pub ghosts-run_at_once : goal.ghosts-run_at_once
ghosts-run_at_once g a = record { table = (arc_value a.parts.desk).table.shared.table_id; settings = (arc_value a.parts.desk).settings }
