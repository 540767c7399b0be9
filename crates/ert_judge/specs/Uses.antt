-- The uses of the slots of a wheel, as a judge keeps them.

use Rattle.std.specs.Prelude.{◌≡◌, ◌≢◌, ℕ, ◌+◌, cond, nat_eq, max, slice_get, List, [], ◌∷◌, Some}
use Rattle.ert_defs.specs.Timers.{Row, Uses, turned}
use Rattle.ert_judge.specs.declared.state.{uses.Uses.Uses as KeptUses, wheels.Timer.Timer}

-- the uses that are kept
abbrev pub uses_of : KeptUses → Uses
uses_of u = record { last = u.last; since = u.since; above = u.above }

-- those of a slot that had no timer, as they are kept
abbrev pub none_kept : KeptUses
none_kept = record { last = 0; since = 0; above = 0 }

-- the uses of a slot after one more timer in it
abbrev pub used_by : Row → Uses → Uses
used_by row u = record { last = row.timer.generation; since = (turned u).since; above = max u.above (row.deadline + 1) }

-- the uses of a slot after some more timers of its wheel
abbrev pub uses_from : Uses → List Timer → ℕ → Uses
uses_from u [] k = u
uses_from u (t ∷ ts) k = uses_from (cond (nat_eq t.row.timer.slot k) (used_by t.row u) u) ts k

-- the uses of a slot by the timers of its wheel, one after the other
abbrev pub uses_in : List Timer → ℕ → Uses
uses_in ts k = uses_from (uses_of none_kept) ts k

-- no timer of a slot has this generation
abbrev pub IsNewUse : List Timer → ℕ → ℕ → Type 0
IsNewUse ts k n = (p : ℕ) (t : Timer) → slice_get ts p ≡ Some t → t.row.timer.slot ≡ k → t.row.timer.generation ≢ n
