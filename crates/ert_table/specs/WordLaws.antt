-- That two values have two words.

use Rattle.std.specs.Prelude.{◌≡◌, ◌≢◌, ℕ, ℤ, Bool}
use Rattle.ert_defs.specs.{Lines.IsOffset, Words.{time_word, offset_word, timer_word}, declared.timer.Status.Status}
use Rattle.ert_table.specs.Ranges.{IsTime, IsTimer, shown_generation}

-- times of one word are one
abbrev pub LawOfTimeWords : Type 0
LawOfTimeWords = (start now other : ℤ) → IsTime now start → IsTime other start
    → time_word now start ≡ time_word other start → now ≡ other

-- offsets of one word are one, and both are final or neither is
abbrev pub LawOfOffsetWords : Type 0
LawOfOffsetWords = (offset other : ℤ) (final other_final : Bool) → IsOffset offset → IsOffset other
    → offset_word offset final ≡ offset_word other other_final → (offset ≡ other) × (final ≡ other_final)

-- timers of one word have one status and deadline, and what it shows of their generations is one: so two
-- that are armed have one generation
abbrev pub LawOfTimers : Type 0
LawOfTimers = (status other_status : Status) (deadline other_deadline generation other_generation : ℕ)
    → IsTimer deadline generation → IsTimer other_deadline other_generation
    → timer_word status deadline generation ≡ timer_word other_status other_deadline other_generation
    → (status ≡ other_status) × (deadline ≡ other_deadline)
    × (shown_generation status generation ≡ shown_generation other_status other_generation)

-- no timer has the word of a slot that was never used
abbrev pub LawOfIdle : Type 0
LawOfIdle = (status : Status) (deadline generation : ℕ) → IsTimer deadline generation
    → timer_word status deadline generation ≢ 0
