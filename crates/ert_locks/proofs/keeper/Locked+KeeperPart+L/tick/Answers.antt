use Rattle.std.proofs.Common.{refl}
use Rattle.ert_locks.proofs.keeper.Locked+KeeperPart+L.tick.Goals as goal

pub returns-clause-call : goal.returns-clause-call
returns-clause-call g c = c.lend.ensures.call _ refl
