use Rattle.ert_defs.proofs.Standing.{all_stand}
use Rattle.ert_laws.proofs.ranges.timers_have_rows.Goals as goal

pub returns : goal.returns
returns c = λ g h r legal used. all_stand g h legal r used
