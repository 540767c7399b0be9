-- What C passes to open a service, and what that means.

use Rattle.std.specs.Prelude.{◌≡◌, ◌≢◌, ◌⊎◌, ℕ, ℤ, cond, nat_eq, not, Option, Some, None, Result, Ok, Err}
use Rattle.ert_defs.specs.{Settings.{IsChecked, Checks}, declared.settings.Mode.Mode, declared.settings.Mode.TheVariants.{No, Single, Multi}, declared.settings.Reading.Reading, declared.settings.Settings.Settings}
use Rattle.ert_defs.specs.{declared.settings.SettingsFault.SettingsFault, declared.settings.SettingsFault.TheVariants.{Start, First, Count}}
use Rattle.ert_world.specs.{Openings.IsOpened, Worlds.Seen}
use Rattle.ert_c.specs.declared.{opening.ErtReading.ErtReading, opening.ErtSettings.ErtSettings, opening.TheConstants.SETTINGS_SIZE, status.TheConstants.{OK, CLOSED, OPEN, NO_MEMORY, BAD_SIZE, BAD_MODE, BAD_START, BAD_READING, BAD_COUNT}}

-- the reading of the service
abbrev pub reading_as : ErtReading → Reading
reading_as r = record { mono = r.mono; sys = r.sys }

-- the time warp mode of a number
abbrev pub mode_at : ℕ → Option Mode
mode_at n = cond (nat_eq n 0) (Some No) (cond (nat_eq n 1) (Some Single) (cond (nat_eq n 2) (Some Multi) None))

-- the settings of the service, with a mode
abbrev pub settings_as : ErtSettings → Mode → Settings
settings_as c mode = record {
  mode = mode;
  correction = not (nat_eq c.correction 0);
  start = c.start;
  schedulers = c.schedulers;
  processes = c.processes;
  slots = c.slots;
  looks = c.looks;
  callers = c.callers;
  first = reading_as c.first;
}

-- the status of each fault
abbrev pub status_of : SettingsFault → ℤ
status_of Start = BAD_START
status_of First = BAD_READING
status_of Count = BAD_COUNT

-- the settings have a fault that the service finds
pub record HasFault (c : ErtSettings) (status : ℤ) : Type 0 where
  pub mode : Mode
  pub fault : SettingsFault
  pub has_mode : mode_at c.mode ≡ Some mode
  pub found : Checks (settings_as c mode) (Err fault)
  pub told : status ≡ status_of fault

-- what C passed means these settings, which a service can be opened with; or it is refused, by the status of
-- its first cause: the size, the mode, and then what the service finds
abbrev pub ReadsSettings : ErtSettings → Result Settings ℤ → Type 0
ReadsSettings c (Ok g) = (c.size ≡ SETTINGS_SIZE) × (mode_at c.mode ≡ Some g.mode) × (g ≡ settings_as c g.mode) × IsChecked g
ReadsSettings c (Err status) =
    ((c.size ≢ SETTINGS_SIZE) × (status ≡ BAD_SIZE))
    ⊎ ((c.size ≡ SETTINGS_SIZE) × (((mode_at c.mode ≡ None) × (status ≡ BAD_MODE)) ⊎ HasFault c status))

-- a service stands behind the handle: it was opened with these settings
pub record HasOpened (g : Settings) (status : ℤ) (new : Option Seen) : Type 0 where
  pub world : Seen
  pub is : new ≡ Some world
  pub opened : IsOpened g world
  pub told : status ≡ OK

-- what was read opens a service, or finds no memory for it; a refusal is told by its status
abbrev pub OpensBy : Result Settings ℤ → ℤ → Option Seen → Type 0
OpensBy (Ok g) status new = HasOpened g status new ⊎ ((status ≡ NO_MEMORY) × (new ≡ None))
OpensBy (Err why) status new = (status ≡ why) × (new ≡ None)

-- behind a closed handle a service is opened with what C passed, or isn't
pub record OpensNew (c : ErtSettings) (status : ℤ) (new : Option Seen) : Type 0 where
  pub read : Result Settings ℤ
  pub meant : ReadsSettings c read
  pub opens : OpensBy read status new

-- a closed handle is opened or stays closed, and an open one is left as it was
abbrev pub Opens : ErtSettings → Option Seen → ℤ → Option Seen → Type 0
Opens c None status new = OpensNew c status new
Opens c (Some w) status new = (status ≡ OPEN) × (new ≡ Some w)

-- an open handle is closed, and a closed one stays so
abbrev pub ClosesHandle : {W : Type 0} → Option W → ℤ → Option W → Type 0
ClosesHandle None status new = (status ≡ CLOSED) × (new ≡ None)
ClosesHandle (Some w) status new = (status ≡ OK) × (new ≡ None)
