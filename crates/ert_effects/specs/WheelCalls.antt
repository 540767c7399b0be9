-- What the calls that go over the timers of a wheel record and answer.

use Rattle.std.specs.Prelude.{◌≡◌, ◌≢◌, ◌⊎◌, ℕ, ◌+◌, ◌≤◌, ℤ, Bool, true, false, not, List, [], ◌∷◌, ◌++◌, map, Option, Some, None, Result, Ok, Err}
use Rattle.ert_defs.specs.{Entries.{look_entry, probe_entry, expire_entry, orphan_entry, advanced_entry, mark_entry}, States.State, Timers.{Row, row_of}, declared.entry.Actor.Actor, declared.entry.Actor.TheVariants.{Caller, Sched}}
use Rattle.ert_defs.specs.{declared.entry.Entry.Entry, declared.memory.NoMemory.NoMemory, declared.settings.Settings.Settings, declared.timer.Status.Status, declared.timer.Status.TheVariants.Armed, declared.timer.TimerRef.TimerRef}

-- a try to settle a timer: it hit, or missed, and then its slot was found so
pub record Try : Type 0 where
  pub timer : TimerRef
  pub missed : Option (Option Status)

-- the entry of a try to let a timer of a scheduler expire
abbrev pub expires_by : ℕ → TimerRef → Option (Option Status) → Entry
expires_by w timer None = expire_entry w timer
expires_by w timer (Some found) = probe_entry (Sched w) w timer.slot found

-- the entries of such tries
abbrev pub expiry_entries : ℕ → List Try → List Entry
expiry_entries w tries = map (λ t. expires_by w t.timer t.missed) tries

-- 1 for a hit, and 0 for a miss
abbrev pub hit_by : Option (Option Status) → ℕ
hit_by None = 1
hit_by (Some found) = 0

-- how many of the tries hit
abbrev pub hits : List Try → ℕ
hits [] = 0
hits (t ∷ tries) = hit_by t.missed + hits tries

-- a try that missed found its timer settled
abbrev pub IsSettled : Option (Option Status) → Type 0
IsSettled None = Unit {0}
IsSettled (Some found) = found ≢ Some Armed

-- each of these tries that missed did
abbrev pub AllMissesSettled : List Try → Type 0
AllMissesSettled [] = Unit {0}
AllMissesSettled (t ∷ tries) = IsSettled t.missed × AllMissesSettled tries

-- among these rows the timer has one that is due at a time
pub record IsDueBy (rows : List Row) (to : ℕ) (timer : TimerRef) : Type 0 where
  pub row : Row
  pub stands : row_of rows timer ≡ Some row
  pub due : row.deadline ≤ to

-- each of these tries is of such a timer
abbrev pub AllDue : List Row → ℕ → List Try → Type 0
AllDue rows to [] = Unit {0}
AllDue rows to (t ∷ tries) = IsDueBy rows to t.timer × AllDue rows to tries

-- none of these tries is of the timer
abbrev pub IsUntried : TimerRef → List Try → Type 0
IsUntried timer [] = Unit {0}
IsUntried timer (t ∷ tries) = (t.timer ≢ timer) × IsUntried timer tries

-- no timer is tried twice
abbrev pub AreOnce : List Try → Type 0
AreOnce [] = Unit {0}
AreOnce (t ∷ tries) = IsUntried t.timer tries × AreOnce tries

-- a scheduler advances its wheel: a look, a try for each row that it takes up, and the record; it answers
-- the milliseconds and the number of timers that expired. Each try is of a timer that is due by then, and none is
-- tried twice. A timer that didn't expire was settled by another
pub record HasAdvanced (w : ℕ) (answer : ℕ × ℕ) (s : State) (es : List Entry) : Type 0 where
  pub now : ℤ
  pub tries : List Try
  pub expired : answer.1 ≡ hits tries
  pub settled : AllMissesSettled tries
  pub due : AllDue (s.rows w) answer.0 tries
  pub once : AreOnce tries
  pub entries : es ≡ look_entry (Sched w) now ∷ (map (λ t. expires_by w t.timer t.missed) tries ++ advanced_entry w answer.0 ∷ [])

-- `advance`, of a scheduler's wheel: Look; for timers that are due by the milliseconds of the Advanced, each
-- once at most, an Expire, or a Probe of its slot that found it settled; Advanced. The answer: the
-- milliseconds of the Advanced and the number of Expires. Out of memory: nothing, or Look
abbrev pub Advances : Settings → ℕ → Result (ℕ × ℕ) NoMemory → State → List Entry → Type 0
Advances g w (Ok answer) s es = HasAdvanced w answer s es
Advances g w (Err e) s es = (es ≡ []) ⊎ ((now : ℤ) × (es ≡ look_entry (Sched w) now ∷ []))

-- the entry of a try to cancel a timer of a wheel for the exit of its destination
abbrev pub orphans_by : ℕ → ℕ → TimerRef → Option (Option Status) → Entry
orphans_by by w timer None = orphan_entry by w timer
orphans_by by w timer (Some found) = probe_entry (Caller by) w timer.slot found

-- the entries of such tries
abbrev pub orphan_entries : ℕ → ℕ → List Try → List Entry
orphan_entries by w tries = map (λ t. orphans_by by w t.timer t.missed) tries

-- among these rows the timer has one that goes to the process
pub record IsFor (rows : List Row) (process : ℕ) (timer : TimerRef) : Type 0 where
  pub row : Row
  pub stands : row_of rows timer ≡ Some row
  pub dest : row.dest ≡ process

-- what a try of a sweep may be: of a timer for the process, and a miss found it settled
abbrev pub MaySweep : List Row → ℕ → TimerRef → Option (Option Status) → Type 0
MaySweep rows process timer missed = IsFor rows process timer × IsSettled missed

-- each of these tries may be one of a sweep
abbrev pub AllMaySweep : List Row → ℕ → List Try → Type 0
AllMaySweep rows process [] = Unit {0}
AllMaySweep rows process (t ∷ tries) = MaySweep rows process t.timer t.missed × AllMaySweep rows process tries

-- the steps of `sweep`, by a caller over a wheel: for timers that go to the process by their rows, none of
-- them twice, an Orphan, or a Probe that found the slot not armed
pub record Sweeps (g : Settings) (by w process : ℕ) (s : State) (es : List Entry) : Type 0 where
  pub tries : List Try
  pub may : AllMaySweep (s.rows w) process tries
  pub once : AreOnce tries
  pub entries : es ≡ map (λ t. orphans_by by w t.timer t.missed) tries

-- none of these rows for the process is armed
abbrev pub AreSwept : (TimerRef → Option Status) → ℕ → List Row → Type 0
AreSwept status process [] = Unit {0}
AreSwept status process (r ∷ rows) = (r.dest ≡ process → status r.timer ≢ Some Armed) × AreSwept status process rows

-- no timer of a wheel for the process is armed
abbrev pub IsSwept : State → ℕ → ℕ → Type 0
IsSwept s w process = AreSwept s.status process (s.rows w)

-- `is_process_alive`: Mark, which exits nobody: it is seen whether the process had exited, and the answer is
-- that it had not
abbrev pub TellsAlive : Settings → Actor → ℕ → Bool → State → List Entry → Type 0
TellsAlive g by process answer s es = es ≡ mark_entry by process false (not answer) ∷ []

-- `mark_exit`: Mark, which exits the process, and the answer is that it had not exited before
abbrev pub MarksExit : Settings → Actor → ℕ → Bool → State → List Entry → Type 0
MarksExit g by process answer s es = es ≡ mark_entry by process true (not answer) ∷ []
