use Rattle.ert_table.specs.{Desks.{settings_of, actors_of}, Entries.{offset_entry, offset_in, state_in}}
use Rattle.ert_table.proofs.desk.Pass.load_offset.Given as goal

abbrev pub ghosts-load_offset_as : goal.ghosts-load_offset_as
ghosts-load_offset_as a = record {
  settings = settings_of a.desk.now;
  entry = λ n. offset_entry (settings_of a.desk.now) (actors_of a.self.now) a.by a.carry.now (offset_in n) (state_in (settings_of a.desk.now) n);
}
