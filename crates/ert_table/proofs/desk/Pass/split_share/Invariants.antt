use Rattle.ert_table.specs.{Desks.settings_of, Shares.is_of_share}
use Rattle.ert_table.proofs.desk.Pass.split_share.Given as goal

abbrev pub ghosts-split_share_as : goal.ghosts-split_share_as
ghosts-split_share_as a = record { mine = is_of_share (settings_of a.desk.now) a.share.now }
