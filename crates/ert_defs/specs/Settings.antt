-- What a service can be opened with.

use Rattle.std.specs.Prelude.{◌≡◌, ℤ, pos, negsuc, ◌*◌, ◌≤◌, ◌≤ℤ◌, false, Result, Ok, Err}
use Rattle.std.specs.Int.{int_rem_euclid}
use Rattle.ert_defs.specs.{Readings.IsValid, declared.settings.Mode.TheVariants.No, declared.settings.Settings.Settings, declared.settings.SettingsFault.SettingsFault, declared.settings.SettingsFault.TheVariants.{Start, First, Count}}
use Rattle.ert_defs.specs.{declared.settings.TheConstants.{MOST_SCHEDULERS, MOST_PROCESSES, MOST_CHAINS, MOST_SLOTS, MOST_SLOTS_IN_ALL, MOST_CALLERS}}

-- a start time (profile): a multiple of 1,000,000 from -2^58 to 2^58
pub record IsStart (start : ℤ) : Type 0 where
  pub whole : int_rem_euclid start (pos 1000000) ≡ pos 0
  pub low : negsuc 288230376151711743 ≤ℤ start
  pub high : start ≤ℤ pos 288230376151711744

-- the counts are within their limits (profile): 1 to 1,024 schedulers, 1 to 524,288 processes, schedulers
-- times processes at most 67,108,864, 1 to 16,777,216 slots for each scheduler and at most 67,108,864 in all,
-- 1 to 1,025 callers, and at least 1 look
pub record HasCounts (g : Settings) : Type 0 where
  pub schedulers_low : 1 ≤ g.schedulers
  pub schedulers_high : g.schedulers ≤ MOST_SCHEDULERS
  pub processes_low : 1 ≤ g.processes
  pub processes_high : g.processes ≤ MOST_PROCESSES
  pub chains_in_all : (g.schedulers * g.processes) ≤ MOST_CHAINS
  pub slots_low : 1 ≤ g.slots
  pub slots_high : g.slots ≤ MOST_SLOTS
  pub slots_in_all : (g.schedulers * g.slots) ≤ MOST_SLOTS_IN_ALL
  pub looks_low : 1 ≤ g.looks
  pub callers_low : 1 ≤ g.callers
  pub callers_high : g.callers ≤ MOST_CALLERS

-- settings that a service can be opened with (profile)
pub record IsChecked (g : Settings) : Type 0 where
  pub start : IsStart g.start
  pub first : IsValid g.first
  pub counts : HasCounts g

-- what a check of settings answers (profile): each fault exactly where it stands and none before it does:
-- first the start time, then the first reading, then the counts
abbrev pub Checks : Settings → Result (Unit {0}) SettingsFault → Type 0
Checks g (Ok _) = IsChecked g
Checks g (Err Start) = IsStart g.start → ⊥
Checks g (Err First) = IsStart g.start × (IsValid g.first → ⊥)
Checks g (Err Count) = IsStart g.start × IsValid g.first × (HasCounts g → ⊥)

-- settings that nobody uses
abbrev pub any_settings : Settings
any_settings = record {
  mode = No;
  correction = false;
  start = pos 0;
  schedulers = 0;
  processes = 0;
  slots = 0;
  looks = 0;
  callers = 0;
  first = record { mono = pos 0; sys = pos 0 };
}
