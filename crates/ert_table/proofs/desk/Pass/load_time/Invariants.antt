use Rattle.ert_table.specs.{Desks.settings_of, Entries.{time_entry, time_in}}
use Rattle.ert_table.proofs.desk.Pass.load_time.Given as goal

abbrev pub ghosts-load_time_as : goal.ghosts-load_time_as
ghosts-load_time_as a = record {
  settings = settings_of a.desk.now;
  entry = λ n. time_entry a.by a.carry.now (time_in (settings_of a.desk.now) n);
}
