-- What a clock shows, and the history that it stands for.

use Rattle.std.specs.Prelude.{◌≡◌, List, None}
use Rattle.ert_defs.specs.{Clocks.{face, first_clock}, Legal.Legal, Lines.Face, Settings.IsChecked, Sound.Sound, States.state, declared.entry.Entry.Entry, declared.settings.Settings.Settings}

-- the settings that a clock was opened with, and its face: its time, its offset and the state of that,
-- the base of its line, and the OS monotonic time of its last tick
pub record Shown : Type 0 where
  pub settings : Settings
  pub face : Face

-- what a clock shows that has just been opened
abbrev pub opening_shown : Settings → Shown
opening_shown g = record { settings = g; face = face g (first_clock g) }

-- a clock stands for a history: it shows what the clock shows after it, and no shift is due
pub record ClockStands (g : Settings) (h : List Entry) (v : Shown) : Type 0 where
  pub legal : Legal g h
  pub settings : v.settings ≡ g
  pub face : v.face ≡ face g (state g h).clock
  pub quiet : (state g h).clock.due ≡ None

-- what each clock keeps: settings that were checked, and the bounds of its face
pub record IsKept (g : Settings) (f : Face) : Type 0 where
  pub checked : IsChecked g
  pub sound : Sound g f
