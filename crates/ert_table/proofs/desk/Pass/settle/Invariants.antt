use Rattle.ert_defs.specs.States.{state}
use Rattle.ert_table.specs.{Desks.{settings_of, front_of}, Settlings.settle_entry}
use Rattle.ert_table.proofs.desk.Pass.settle.Given as goal

abbrev pub ghosts-settle_as : goal.ghosts-settle_as
ghosts-settle_as a = record {
  settings = settings_of a.desk.now;
  entry = settle_entry (settings_of a.desk.now) (state (settings_of a.desk.now) (front_of a.self.now)) a.by a.timer a.deadline a.how;
}
