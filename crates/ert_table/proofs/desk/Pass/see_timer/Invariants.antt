use Rattle.ert_table.specs.Desks.{settings_of}
use Rattle.ert_table.proofs.desk.Pass.see_timer.Given as goal

abbrev pub ghosts-see_timer_as : goal.ghosts-see_timer_as
ghosts-see_timer_as a = record { settings = settings_of a.desk.now }
