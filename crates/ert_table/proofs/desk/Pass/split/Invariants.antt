use Rattle.ert_table.proofs.desk.Pass.split.Given as goal

abbrev pub ghosts-split_as : goal.ghosts-split_as
ghosts-split_as a = record { actor = a.actor }
