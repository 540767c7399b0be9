use Rattle.std.proofs.Common.{pos, Some, refl}
use Rattle.ert_effects.proofs.worked.cancels_are_judged.Goals as goal

pub returns-clause-hit : goal.returns-clause-hit
returns-clause-hit c = record { now = pos 1000000; found = Some 5; entries = refl; unread = λ out. cc; quiet = λ nothing. cc }

pub returns-clause-miss : goal.returns-clause-miss
returns-clause-miss c = record { now = pos 1000000; found = Some 5; entries = refl; unread = λ out. cc; quiet = λ nothing. refl }
