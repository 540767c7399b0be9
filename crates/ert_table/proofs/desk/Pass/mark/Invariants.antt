use Rattle.std.proofs.Common.{nat_eq, true, false}
use Rattle.ert_table.specs.Desks.{settings_of}
use Rattle.ert_defs.specs.Entries.{mark_entry}
use Rattle.ert_table.proofs.desk.Pass.mark.Given as goal

abbrev pub ghosts-exit_as : goal.ghosts-exit_as
ghosts-exit_as a = record {
  settings = settings_of a.desk.now;
  entry = λ n. mark_entry a.by a.process true (nat_eq n 1);
}

abbrev pub ghosts-load_exit_as : goal.ghosts-load_exit_as
ghosts-load_exit_as a = record {
  settings = settings_of a.desk.now;
  entry = λ n. mark_entry a.by a.process false (nat_eq n 1);
}
