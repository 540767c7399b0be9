use Rattle.std.proofs.Common.{rules, refl}
use Rattle.std.proofs.iter.Serving.{serving}
use Rattle.ert_locks.proofs.{Own.sweeps_have, Scheds.exited_lent}
use Rattle.ert_locks.proofs.wheel.Locked+WheelPart+L.sweep.Goals as goal

pub lend-requires-clause-may : goal.lend-requires-clause-may
lend-requires-clause-may g c = λ x p own is lent. let exited = exited_lent c.args.process c.requires.desk lent c.requires.exited in grind serving

pub lend-requires-clause-own : goal.lend-requires-clause-own
lend-requires-clause-own g c = λ s by n answer. sweeps_have s by n c.args.process

pub returns-clause-call : goal.returns-clause-call
returns-clause-call g c = let grows = c.lend.ensures.call c.args.self.now refl in search rules
