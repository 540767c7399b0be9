-- The atomic words of a history. One word has the time, one the offset, each slot has one and each
-- process has one. Between the last word of one of these groups (the time, the offset, the slots of each
-- wheel, the processes) and the first of the next stand seven words that are always 0. A cache line has
-- eight words, so two groups never share one, however the words are aligned. Eight such words stand in front
-- of the first group and behind the last, so that none shares a line with what others have in memory.

use Rattle.std.specs.Prelude.{ℕ, ℤ, pos, ◌+◌, ◌-◌, ◌*◌, ◌/◌, ◌%◌, ◌+ℤ◌, ◌-ℤ◌, Bool, true, false, cond, nat_eq, nat_lt, Option, Some}
use Rattle.ert_defs.specs.{Milliseconds.natural, States.State, Timers.{Row, use_of, row_of, timer_at}, declared.settings.OffsetState.OffsetState, declared.settings.OffsetState.TheVariants.Final, declared.settings.Settings.Settings}
use Rattle.ert_defs.specs.{declared.timer.Status.Status, declared.timer.Status.TheVariants.{Armed, Expired, Delivered, Cancelled, Orphaned, Dropped}}

-- the time word: the nanoseconds since the start time, 0 to 8796093022207000000
abbrev pub time_word : ℤ → ℤ → ℕ
time_word now start = natural (now -ℤ start)

-- whether an offset is final
abbrev pub is_final : OffsetState → Bool
is_final Final = true
is_final _ = false

-- the offset word, for an offset between -2^62 and 2^62
abbrev pub offset_word : ℤ → Bool → ℕ
offset_word offset final = (natural (offset +ℤ pos 4611686018427387904) * 2) + cond final 1 0

-- the number of the status in the word of a timer: an armed one tells whether it is of its slot's first round
abbrev pub status_code : Status → ℕ → ℕ
status_code Armed generation = cond (nat_lt generation 8796093022208) 1 7
status_code Expired generation = 2
status_code Delivered generation = 3
status_code Cancelled generation = 4
status_code Orphaned generation = 5
status_code Dropped generation = 6

-- the word of a slot whose last timer has this status, deadline and generation; 0 for a slot that was
-- never used
abbrev pub timer_word : Status → ℕ → ℕ → ℕ
timer_word status deadline generation =
    (status_code status generation + (8 * deadline)) + (70368744177664 * use_of generation)

-- the word of a slot by the status, the row and the generation of its last timer; 0 where it had none
abbrev pub slot_word : Option Status → Option Row → ℕ → ℕ
slot_word (Some status) (Some row) generation = timer_word status row.deadline generation
slot_word _ _ generation = 0

-- the word of a process: 1 where it has exited
abbrev pub process_word : Bool → ℕ
process_word exited = cond exited 1 0

-- the word of a slot of a wheel in a state
abbrev pub word_of_slot : State → ℕ → ℕ → ℕ
word_of_slot s w k =
    let timer = timer_at w k (s.last w k) in
    slot_word (s.status timer) (row_of (s.rows w) timer) (s.last w k)

-- how many words a wheel takes: its slots, and the gap behind them
abbrev pub wheel_width : Settings → ℕ
wheel_width g = g.slots + 7

-- how many words the wheels take
abbrev pub wheels_width : Settings → ℕ
wheels_width g = g.schedulers * wheel_width g

-- how many words a service has: gap, time, gap, offset, gap, the wheels with a gap behind each, the processes, gap
abbrev pub word_count : Settings → ℕ
word_count g = ((24 + wheels_width g) + g.processes) + 8

-- the word at an index of a wheel; 0 in the gap
abbrev pub word_of_wheel : Settings → State → ℕ → ℕ → ℕ
word_of_wheel g s w k = cond (nat_lt k g.slots) (word_of_slot s w k) 0

-- the word at an index of the processes; 0 in the gap
abbrev pub word_of_process : Settings → State → ℕ → ℕ
word_of_process g s p = cond (nat_lt p g.processes) (process_word (s.exited p)) 0

-- the word at an index behind the first twenty-four: the wheels one by one, and the processes
abbrev pub later_word : Settings → State → ℕ → ℕ
later_word g s j =
    cond (nat_lt j (wheels_width g))
    (word_of_wheel g s (j / wheel_width g) (j % wheel_width g))
    (word_of_process g s (j - wheels_width g))

-- the word at an index: the time at 8, the offset at 16, the wheels and the processes from 24 on; 0 in a gap. Gaps
-- of seven words between these groups, and of eight at either end, keep each from the cache lines of the others
-- and of what the heap puts beside the table
abbrev pub word_of : Settings → State → ℕ → ℕ
word_of g s i =
    cond (nat_eq i 8) (time_word s.clock.now g.start)
    (cond (nat_eq i 16) (offset_word s.clock.offset (is_final s.clock.state))
    (cond (nat_lt i 24) 0 (later_word g s (i - 24))))
