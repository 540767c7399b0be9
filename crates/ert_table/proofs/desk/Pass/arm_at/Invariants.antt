use Rattle.ert_table.specs.Desks.{settings_of}
use Rattle.ert_defs.specs.Entries.{arm_entry}
use Rattle.ert_table.proofs.desk.Pass.arm_at.Given as goal

abbrev pub ghosts-arm_as : goal.ghosts-arm_as
ghosts-arm_as a = record {
  settings = settings_of a.desk.now;
  entry = λ n. arm_entry a.by a.timer a.start.now;
}
