use Rattle.ert_table.specs.Desks.{settings_of}
use Rattle.ert_defs.specs.Entries.{tick_entry}
use Rattle.ert_table.proofs.desk.Pass.store_time.Given as goal

abbrev pub ghosts-store_time_as : goal.ghosts-store_time_as
ghosts-store_time_as a = record {
  settings = settings_of a.desk.now;
  entry = λ n. tick_entry a.by a.reading a.act a.now;
}
