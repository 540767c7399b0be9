-- The clock by its history: the list of its ticks, and the last check found by looking back.

use Rattle.std.specs.Prelude.{ℤ, cond, List, [], ◌∷◌, Option, None}
use Rattle.std.specs.Int.{int_max}
use Rattle.ert_defs.specs.{Lines.{Base, Face, Due, first_base, first_offset, first_state, is_due, is_base, base_from, due_after}, declared.entry.Act.Act, declared.entry.Event.Event, declared.entry.Event.TheVariants.{Tick, Shift}}
use Rattle.ert_defs.specs.{declared.settings.OffsetState.OffsetState, declared.settings.Reading.Reading, declared.settings.Settings.Settings}

-- a tick, with the offset and its state as they were when it was made
pub record Ticked : Type 0 where
  pub reading : Reading
  pub act : Act
  pub now : ℤ
  pub offset : ℤ
  pub state : OffsetState

-- the clock: its time, its offset with the state of that, the shift that is due, and its ticks, newest
-- first
pub record Clock : Type 0 where
  pub now : ℤ
  pub offset : ℤ
  pub state : OffsetState
  pub due : Option Due
  pub ticks : List Ticked

-- the OS monotonic time of the newest tick: the greatest of its reading, those before, and the first
abbrev pub last_mono : Settings → List Ticked → ℤ
last_mono g [] = g.first.mono
last_mono g (t ∷ ts) = int_max (last_mono g ts) t.reading.mono

-- the base after these ticks: that of the newest one that was a check or a finalization, and the first
-- reading where there is none
abbrev pub last_base : Settings → List Ticked → Base
last_base g [] = first_base g
last_base g (t ∷ ts) =
    cond (is_base t.act (is_due g (last_base g ts) (last_mono g (t ∷ ts)) t.reading.sys))
    (base_from t.reading t.act (last_mono g (t ∷ ts)) t.now t.offset t.state)
    (last_base g ts)

-- what the clock shows
abbrev pub face : Settings → Clock → Face
face g c = record { time = c.now; offset = c.offset; state = c.state; base = last_base g c.ticks; mono = last_mono g c.ticks }

-- the clock at the opening
abbrev pub first_clock : Settings → Clock
first_clock g = record { now = g.start; offset = first_offset g; state = first_state g.mode; due = None; ticks = [] }

-- the clock after an event of its own
abbrev pub clock_after : Settings → Clock → Event → Clock
clock_after g c (Tick reading act now) = record {
  now = now;
  offset = c.offset;
  state = c.state;
  due = due_after g (face g c) reading act now;
  ticks = (record { reading = reading; act = act; now = now; offset = c.offset; state = c.state }) ∷ c.ticks;
}
clock_after g c (Shift offset state) = record { now = c.now; offset = offset; state = state; due = None; ticks = c.ticks }
clock_after g c _ = c
