-- The constants of the interface: the statuses go down from 0, one by one.

use Rattle.std.specs.Prelude.{ℕ, zero, suc, ℤ, negsuc, List, [], ◌∷◌, ◌++◌}
use Rattle.ert_c.specs.declared.status.TheConstants.{OK, CLOSED, OPEN, NO_MEMORY, BAD_SIZE, BAD_MODE, BAD_START, BAD_READING, BAD_COUNT, OFFSET_WIDE, RANGE, BAD_TIME, FULL, NO_TIMER, EMPTY, EXITED, BAD_KIND, NO_MONITOR, NO_SEAT, NO_SHARD}

-- all statuses
abbrev pub statuses : List ℤ
statuses =
    OK ∷ (CLOSED ∷ (OPEN ∷ (NO_MEMORY ∷ (BAD_SIZE ∷ (BAD_MODE ∷ (BAD_START ∷ (BAD_READING ∷ (BAD_COUNT ∷ (OFFSET_WIDE
    ∷ (RANGE ∷ (BAD_TIME ∷ (FULL ∷ (NO_TIMER ∷ (EMPTY ∷ (EXITED ∷ (BAD_KIND ∷ (NO_MONITOR ∷ (NO_SEAT ∷ (NO_SHARD ∷ [])))))))))))))))))))

-- so many numbers below 0, from -1 downward
abbrev pub below_zero : ℕ → List ℤ
below_zero zero = []
below_zero (suc n) = below_zero n ++ negsuc n ∷ []
