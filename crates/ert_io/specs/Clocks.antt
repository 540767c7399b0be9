-- What a clock in memory is, to who uses it.

use Rattle.std.specs.Prelude.{ℕ, List, take, drop}
use Rattle.ert_defs.specs.declared.settings.Reading.{Reading}
use Rattle.ert_io.specs.declared.mem_clock.MemClock.{MemClock}

-- the readings that a clock gave
abbrev pub readings_given : MemClock → List Reading
readings_given s = take s.next s.readings.items

-- the readings that it has left
abbrev pub readings_left : MemClock → List Reading
readings_left s = drop s.next s.readings.items

-- how many readings were asked for
abbrev pub clock_reads : MemClock → ℕ
clock_reads s = s.calls.made

-- the numbers of the readings that are to fail
abbrev pub failing_clock_reads : MemClock → List ℕ
failing_clock_reads s = s.calls.fails.items
