use Rattle.std.proofs.Common.{arith}
use Rattle.ert_wheel.proofs.KeptSlots.{kept_len, kept_len_values}
use Rattle.ert_wheel.proofs.kept.Kept.len.Goals as goal

pub returns-clause-keys : goal.returns-clause-keys
returns-clause-keys g c = omega (arith, c.len.ensures, c.self.inside.values.ok.0, kept_len _ _ _ _ c.self.view_is)

pub returns-clause-values : goal.returns-clause-values
returns-clause-values g c = omega (arith, c.len.ensures, c.self.inside.values.ok.0, kept_len_values _ _ _ _ c.self.view_is)
