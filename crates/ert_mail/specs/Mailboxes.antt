-- The mailbox of a process, as callers see it, and when it stands for a history.

use Rattle.std.specs.Prelude.{◌≡◌, ◌⊎◌, ℕ, ◌<◌, ◌≤◌, true, List, [], ◌∷◌, length, Option, None, Result, Ok, Err}
use Rattle.ert_defs.specs.{Mails.{MailState, SchedState, no_mail, others_of}, States.state, declared.entry.Actor.TheVariants.{Sched, MailOf, Caller}, declared.entry.Entry.Entry, declared.mail.Mail.Mail, declared.mail.Monitor.Monitor}
use Rattle.ert_defs.specs.{declared.memory.NoMemory.NoMemory, declared.settings.Settings.Settings}
use Rattle.ert_laws.specs.Counts.{deliveries}
use Rattle.ert_effects.specs.{MailCalls.Monitors, declared.answers.Handed.Handed, declared.answers.MonitorErr.MonitorErr, declared.answers.MonitorErr.TheVariants.{Full, NoMemory as OutOfMemory}, declared.answers.Taken.Taken}
use Rattle.ert_effects.specs.{declared.answers.Taken.TheVariants.{Mail as First, Empty, Exited}}
use Rattle.ert_table.specs.{Calls.{IsMade, IsOmitted}, Held.is_held, declared.view.View.View}

-- the mailbox of a process: what the process has, how many messages of expired timers were ever put into
-- it, and for how many more messages it has room
pub record Mailbox : Type 0 where
  pub process : ℕ
  pub held : MailState
  pub delivered : ℕ
  pub room : ℕ

-- a mailbox of which this is kept
abbrev pub mailbox_seen : ℕ → List Mail → List Monitor → ℕ → ℕ → ℕ → Mailbox
mailbox_seen process queue monitors next delivered room = record {
  process = process;
  held = record { queue = queue; monitors = monitors; next = next };
  delivered = delivered;
  room = room;
}

-- a mailbox stands for a history: its process is in range; its messages, its monitors, the offsets that these were
-- told and the next number are those of its process; and it has counted the Deliver entries of its process
pub record MailboxStands (g : Settings) (h : List Entry) (m : Mailbox) : Type 0 where
  pub in_range : m.process < g.processes
  pub held : m.held ≡ (state g h).mails m.process
  pub delivered : m.delivered ≡ deliveries m.process h

-- a mailbox is what it was, but for its room
pub record IsSame (old new : Mailbox) : Type 0 where
  pub process : new.process ≡ old.process
  pub held : new.held ≡ old.held
  pub delivered : new.delivered ≡ old.delivered

-- the mailbox of a process that has nothing yet
pub record IsEmpty (number : ℕ) (m : Mailbox) : Type 0 where
  pub process : m.process ≡ number
  pub held : m.held ≡ no_mail
  pub delivered : m.delivered ≡ 0

-- a pass holds the mailbox of a process, and a caller in range
pub record IsCallers (g : Settings) (v : View) (by process : ℕ) : Type 0 where
  pub caller : is_held v.actors (Caller by) ≡ true
  pub below : by < g.callers
  pub mail : is_held v.actors (MailOf process) ≡ true

-- a pass holds the mailbox of a process, and a scheduler in range
pub record HoldsMailboxAndSched (g : Settings) (v : View) (w process : ℕ) : Type 0 where
  pub sched : is_held v.actors (Sched w) ≡ true
  pub below : w < g.schedulers
  pub mail : is_held v.actors (MailOf process) ≡ true

-- what a queue was before an answer and is after it: the first message was taken, there was none, or it
-- wasn't looked at
abbrev pub IsTaken : List Mail → Taken → List Mail → Type 0
IsTaken before (First mail) after = before ≡ mail ∷ after
IsTaken before Empty after = (before ≡ []) × (after ≡ [])
IsTaken before Exited after = after ≡ before

-- a monitor is made, or none can be; when out of memory no step is taken
abbrev pub IsMonitor : Settings → View → ℕ → ℕ → Result ℕ MonitorErr → View → Type 0
IsMonitor g v by process (Ok number) w = IsMade g v (Monitors g by process (Ok number)) w
IsMonitor g v by process (Err Full) w = IsMade g v (Monitors g by process (Err Full)) w
IsMonitor g v by process (Err OutOfMemory) w = IsOmitted g v (Monitors g by process (Err OutOfMemory)) w

-- no further monitor can be made: 64 stand, or the number 4294967295 was given
abbrev pub AreMany : MailState → Type 0
AreMany m = (64 ≤ length m.monitors) ⊎ (4294967295 < m.next)

-- what a scheduler has after its first expired timer was handed over, or wasn't because memory ran out
abbrev pub handed : Result Handed NoMemory → SchedState → SchedState
handed (Ok how) s = record { hand = s.hand; result = s.result; expired = others_of s.expired }
handed (Err e) s = s

-- and after the request in its hand was answered, or wasn't
abbrev pub sched_after_answer : Result (Option ℕ) NoMemory → SchedState → SchedState
sched_after_answer (Ok left) s = record { hand = None; result = None; expired = s.expired }
sched_after_answer (Err e) s = s
