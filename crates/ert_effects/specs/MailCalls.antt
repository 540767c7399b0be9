-- What the calls on the mailbox of a process, and on its monitors, record and answer (`erlang` module
-- reference, `monitor` with `time_offset`).

use Rattle.std.specs.Prelude.{◌≡◌, ◌⊎◌, ℕ, ◌<◌, ◌≤◌, ℤ, Bool, true, false, List, [], ◌∷◌, length, Some, None, Result, Ok, Err}
use Rattle.ert_defs.specs.{Entries.{off_entry, mark_entry, deliver_entry, drop_entry, take_entry, watch_entry, unwatch_entry, tell_entry}, Mails.{MailState, changes_of}, States.State, Timers.Row, declared.entry.Actor.TheVariants.Caller}
use Rattle.ert_defs.specs.{declared.entry.Actor.TheVariants.Sched, declared.entry.Entry.Entry, declared.memory.NoMemory.NoMemory as OutOfMemory, declared.settings.OffsetState.OffsetState, declared.settings.Settings.Settings}
use Rattle.ert_effects.specs.declared.answers.{Handed.Handed, Handed.TheVariants.{Put, Dropped}, MonitorErr.MonitorErr, MonitorErr.TheVariants.{Full, NoMemory}, Taken.Taken, Taken.TheVariants.{Mail, Empty, Exited}}

-- the entries of one that is handed over: its destination is found to have exited, or it is put
abbrev pub handed_entries : ℕ → Row → Handed → List Entry
handed_entries w expired Put = mark_entry (Sched w) expired.dest false false ∷ (deliver_entry w expired.dest expired.timer ∷ [])
handed_entries w expired Dropped = mark_entry (Sched w) expired.dest false true ∷ (drop_entry w expired.timer ∷ [])

-- `deliver` of one expired timer, by a scheduler with the mailbox: Mark of its destination, which exits
-- nobody; then Deliver, or Drop where it had exited. The answer: put, or thrown away
abbrev pub HandsOver : Settings → ℕ → Row → Result Handed OutOfMemory → State → List Entry → Type 0
HandsOver g w expired (Ok how) s es = es ≡ handed_entries w expired how
HandsOver g w expired (Err e) s es = es ≡ []

-- `take`, by a caller with the mailbox: Mark, by which it is seen whether the process had exited, and else
-- Take of the first message
abbrev pub Takes : Settings → ℕ → ℕ → Taken → State → List Entry → Type 0
Takes g by process Exited s es = es ≡ mark_entry (Caller by) process false true ∷ []
Takes g by process Empty s es = es ≡ mark_entry (Caller by) process false false ∷ (take_entry by process None ∷ [])
Takes g by process (Mail mail) s es = es ≡ mark_entry (Caller by) process false false ∷ (take_entry by process (Some mail) ∷ [])

-- a monitor is made, of a number of 32 bits
pub record IsMonitored (by process number : ℕ) (es : List Entry) : Type 0 where
  pub offset : ℤ
  pub low : number ≤ 4294967295
  pub entries : es ≡ watch_entry by process number offset ∷ []

-- no monitor can be made: 64 stand, or the number 4294967295 was given; the offset is looked at
pub record AreMonitorsFull (by : ℕ) (m : MailState) (es : List Entry) : Type 0 where
  pub offset : ℤ
  pub offset_state : OffsetState
  pub full : (64 ≤ length m.monitors) ⊎ (4294967295 < m.next)
  pub entries : es ≡ off_entry (Caller by) offset offset_state ∷ []

-- `monitor`, by a caller with the mailbox: Watch, and its number is answered, at most 4294967295; or, where 64
-- monitors of the process stand or that number was given, Off, and no more can be made
abbrev pub Monitors : Settings → ℕ → ℕ → Result ℕ MonitorErr → State → List Entry → Type 0
Monitors g by process (Ok number) s es = IsMonitored by process number es
Monitors g by process (Err Full) s es = AreMonitorsFull by (s.mails process) es
Monitors g by process (Err NoMemory) s es = es ≡ []

-- `demonitor`, by a caller with the mailbox: Unwatch; the answer is whether the monitor stood
abbrev pub Demonitors : Settings → ℕ → ℕ → ℕ → Bool → State → List Entry → Type 0
Demonitors g by process monitor answer s es = es ≡ unwatch_entry by process monitor answer ∷ []

-- the monitors of a process are told the offset; the answer is the number of messages that are put
pub record HasTold (by process : ℕ) (m : MailState) (put : ℕ) (es : List Entry) : Type 0 where
  pub offset : ℤ
  pub put_is : put ≡ length (changes_of offset m.monitors)
  pub entries : es ≡ tell_entry by process offset ∷ []

-- `notify`, by a caller with the mailbox: Tell; the answer is the number of messages put
abbrev pub Notifies : Settings → ℕ → ℕ → Result ℕ OutOfMemory → State → List Entry → Type 0
Notifies g by process (Ok put) s es = HasTold by process (s.mails process) put es
Notifies g by process (Err e) s es = es ≡ []
