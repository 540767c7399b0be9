use Rattle.ert_defs.specs.States.{state}
use Rattle.ert_table.specs.{Desks.{settings_of, front_of}, Settlings.{read_entry, parts_in}}
use Rattle.ert_table.proofs.desk.Pass.peek_word.Given as goal

abbrev pub ghosts-load_timer_as : goal.ghosts-load_timer_as
ghosts-load_timer_as a = record {
  settings = settings_of a.desk.now;
  entry = λ n. read_entry (settings_of a.desk.now) ((state (settings_of a.desk.now) (front_of a.self.now)).looked a.by) a.by a.carry.now (parts_in n);
}
