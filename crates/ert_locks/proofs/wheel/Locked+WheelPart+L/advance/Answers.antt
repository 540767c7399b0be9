use Rattle.ert_locks.proofs.Own.{advances_have}
use Rattle.ert_locks.proofs.wheel.Locked+WheelPart+L.advance.Goals as goal

pub lend-requires-clause-own : goal.lend-requires-clause-own
lend-requires-clause-own g c = λ s w n answer. advances_have s w answer
