use Rattle.std.proofs.Common.{map, ap, arith}
use Rattle.ert_wheel.proofs.kept.Kept.new.Goals as goal

pub returns-clause-keys : goal.returns-clause-keys
returns-clause-keys g c = ap (map g.T.Keyed.key) c.in_ok-values.ensures.items

pub returns-clause-values : goal.returns-clause-values
returns-clause-values g c = c.in_ok-values.ensures.items

pub returns-clause-room : goal.returns-clause-room
returns-clause-room g c = omega (arith, c.in_ok-values.ensures.capacity)
