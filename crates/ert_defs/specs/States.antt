-- The state after a history. Each part that belongs to an actor changes only by the entries that have
-- that actor. The statuses of timers and the exits of processes belong to nobody, and move forward alone.

use Rattle.std.specs.Prelude.{◌≡◌, ℕ, ℤ, Bool, true, false, cond, ◌&&◌, ◌||◌, nat_eq, List, [], ◌∷◌, Option, None}
use Rattle.ert_defs.specs.{Actors.{same_actor, has_actor}, Clocks.{Clock, first_clock, clock_after}, Mails.{MailState, SchedState, no_mail, idle_sched, mail_after, inbox_after, sched_after}, Timers.{Row, Uses, rows_after, last_after}}
use Rattle.ert_defs.specs.{Timers.{since_after, above_after, status_after}, declared.entry.Actor.Actor, declared.entry.Actor.TheVariants.{Keeper, Wheel, Inbox, Sched, MailOf}, declared.entry.Entry.Entry, declared.entry.Event.Event}
use Rattle.ert_defs.specs.{declared.entry.Event.TheVariants.{Look, Mark}, declared.mail.Request.Request, declared.settings.Settings.Settings, declared.timer.Status.Status, declared.timer.TimerRef.TimerRef}

-- the state of a service
pub record State : Type 0 where
  -- the clock, of Keeper
  pub clock : Clock
  -- the time in the last look of each actor, and the start time where there is none
  pub looked : Actor → ℤ
  -- the timers of each wheel, in order of arming
  pub rows : ℕ → List Row
  -- of each wheel and slot the last generation, 0 where there is none
  pub last : ℕ → ℕ → ℕ
  -- since when its round may have timers, and one above the greatest deadline of its timers
  pub since : ℕ → ℕ → ℕ
  pub above : ℕ → ℕ → ℕ
  -- the status of each timer, None where it was never armed
  pub status : TimerRef → Option Status
  -- whether each process has exited
  pub exited : ℕ → Bool
  -- the mailbox and the monitors of each process, of its MailOf
  pub mails : ℕ → MailState
  -- the requests that wait for each scheduler, of its Inbox
  pub inboxes : ℕ → List Request
  -- what each scheduler has, of its Sched
  pub scheds : ℕ → SchedState

-- the uses of a slot of a wheel
abbrev pub uses_at : State → ℕ → ℕ → Uses
uses_at s w k = record { last = s.last w k; since = s.since w k; above = s.above w k }

-- the last look after an event of the looker
abbrev pub look_after : ℤ → Event → ℤ
look_after last (Look now) = now
look_after last _ = last

-- whether a process has exited after an event
abbrev pub exited_after : ℕ → Bool → Event → Bool
exited_after p exited (Mark process exits was) = exited || (nat_eq process p && exits)
exited_after p exited _ = exited

-- the opening (ERTS User's Guide, "Time Warp Modes")
abbrev pub opening : Settings → State
opening g = record {
  clock = first_clock g;
  looked = λ a. g.start;
  rows = λ w. [];
  last = λ w k. 0;
  since = λ w k. 0;
  above = λ w k. 0;
  status = λ r. None;
  exited = λ p. false;
  mails = λ p. no_mail;
  inboxes = λ w. [];
  scheds = λ w. idle_sched;
}

-- the state after one more entry
abbrev pub next : Settings → State → Entry → State
next g s e = record {
  clock = cond (has_actor e Keeper) (clock_after g s.clock e.event) s.clock;
  looked = λ a. cond (same_actor e.by a) (look_after (s.looked a) e.event) (s.looked a);
  rows = λ w. cond (has_actor e (Wheel w)) (rows_after g (s.looked e.by) w (s.rows w) e.event) (s.rows w);
  last = λ w k. cond (has_actor e (Wheel w)) (last_after w k (s.last w k) e.event) (s.last w k);
  since = λ w k. cond (has_actor e (Wheel w)) (since_after w k (uses_at s w k) e.event) (s.since w k);
  above = λ w k. cond (has_actor e (Wheel w)) (above_after g (s.looked e.by) w k (s.above w k) e.event) (s.above w k);
  status = λ r. status_after r (has_actor e (Wheel r.wheel)) (s.status r) e.event;
  exited = λ p. exited_after p (s.exited p) e.event;
  mails = λ p. cond (has_actor e (MailOf p)) (mail_after s.scheds (s.mails p) e.event) (s.mails p);
  inboxes = λ w. cond (has_actor e (Inbox w)) (inbox_after (s.inboxes w) e.event) (s.inboxes w);
  scheds = λ w. cond (has_actor e (Sched w)) (sched_after s.rows (s.scheds w) e.event) (s.scheds w);
}

-- the state after some more entries
abbrev pub run : Settings → State → List Entry → State
run g s [] = s
run g s (e ∷ es) = run g (next g s e) es

-- the state after a history
abbrev pub state : Settings → List Entry → State
state g h = run g (opening g) h

-- a process has exited in a history
abbrev pub HasExited : Settings → List Entry → ℕ → Type 0
HasExited g h process = (state g h).exited process ≡ true

-- what a scheduler has after a history
abbrev pub sched_of : Settings → List Entry → ℕ → SchedState
sched_of g h n = (state g h).scheds n
