use Rattle.ert_table.specs.Desks.{settings_of}
use Rattle.ert_defs.specs.Entries.{shift_entry}
use Rattle.ert_table.proofs.desk.Pass.store_offset.Given as goal

abbrev pub ghosts-store_offset_as : goal.ghosts-store_offset_as
ghosts-store_offset_as a = record {
  settings = settings_of a.desk.now;
  entry = λ n. shift_entry a.by a.offset a.state;
}
