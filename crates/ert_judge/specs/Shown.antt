-- The model's state that a judge keeps, and how it goes on by an entry.

use Rattle.std.specs.Prelude.{◌≡◌, ℕ, ℤ, [], List, length, Option, Some, None, replicate, false}
use Rattle.ert_defs.specs.{Clocks.{Clock, face, first_clock}, Legal.{CanTick, Legal}, Lines.{Face, Due, due_after, ticked, shifted}, Mails.{no_mail, idle_sched}, Milliseconds.deadline_of, States.{State, exited_after, state}}
use Rattle.ert_defs.specs.{Timers.timer_at, declared.entry.Actor.Actor, declared.entry.Entry.Entry, declared.entry.Event.Event, declared.entry.Event.TheVariants.{Tick, Shift, Arm}, declared.settings.Settings.Settings}
use Rattle.ert_defs.specs.{declared.timer.Status.Status}
use Rattle.ert_clock.specs.Faces.{face_of}
use Rattle.ert_judge.specs.{Parts.{looks_in, no_looks, look_of, looks_after, rows_in, status_at, timers_after, exited_at, mail_at, mail_after_with, inbox_at, inboxes_after, sched_at, scheds_in, scheds_after}, Uses.uses_in, Wheels.timers_at}
use Rattle.ert_judge.specs.{Wheels.IsOwn, declared.state.clock.Clock.Clock as KeptClock, declared.judge.Judge.Judge}

-- the numbers of a judge's clock are those of a clock
pub record ClockIs (g : Settings) (c : Clock) (k : KeptClock) : Type 0 where
  pub face : face g c ≡ face_of k.face
  pub due : c.due ≡ k.due

-- the last look of an actor
abbrev pub last_look : Judge → Actor → ℤ
last_look j a = look_of (looks_in j.looks) a

-- the state that a judge keeps, with this clock
abbrev pub shown : Clock → Judge → State
shown c j = record {
  clock = c;
  looked = λ a. last_look j a;
  rows = λ w. rows_in j.timers w;
  last = λ w k. (uses_in (timers_at j.timers w) k).last;
  since = λ w k. (uses_in (timers_at j.timers w) k).since;
  above = λ w k. (uses_in (timers_at j.timers w) k).above;
  status = λ r. status_at j.timers r;
  exited = λ p. exited_at j.exits p;
  mails = λ p. mail_at j.mailboxes p;
  inboxes = λ w. inbox_at j.inboxes w;
  scheds = λ w. sched_at j.schedulers w;
}

-- a judge at the opening
pub record IsOpening (g : Settings) (j : Judge) : Type 0 where
  pub settings : j.settings ≡ g
  pub clock : ClockIs g (first_clock g) j.clock
  pub looks : looks_in j.looks ≡ no_looks g
  pub timers : j.timers ≡ replicate g.schedulers []
  pub exits : (p : ℕ) → exited_at j.exits p ≡ false
  pub mailboxes : (p : ℕ) → mail_at j.mailboxes p ≡ no_mail
  pub inboxes : j.inboxes ≡ replicate g.schedulers []
  pub schedulers : j.schedulers ≡ replicate g.schedulers idle_sched

-- the timers of each wheel are its own, each under its own status
abbrev pub OwnTimers : Judge → Type 0
OwnTimers j = (w : ℕ) → IsOwn w (timers_at j.timers w)

-- the status of the last timer of a slot
abbrev pub last_status : Judge → ℕ → ℕ → Option Status
last_status j w k = status_at j.timers (timer_at w k (uses_in (timers_at j.timers w) k).last)

-- what the clock shows after an event
abbrev pub face_moved : Settings → Face → Event → Face
face_moved g f (Tick r act now) = ticked g f r act now
face_moved g f (Shift offset new) = shifted f (Some (offset, new))
face_moved g f _ = f

-- the shift that is due after an event
abbrev pub due_moved : Settings → Face → Option Due → Event → Option Due
due_moved g f due (Tick r act now) = due_after g f r act now
due_moved g f due (Shift offset new) = None
due_moved g f due _ = due

-- a clock can go on by an event: by a tick where that is legal
abbrev pub MayFollow : Settings → Face → Event → Type 0
MayFollow g f (Tick r act now) = CanTick g f r act now
MayFollow g f _ = Unit {0}

-- a clock has gone on by an event
pub record ClockFollows (g : Settings) (old : KeptClock) (event : Event) (new : KeptClock) : Type 0 where
  pub face : face_of new.face ≡ face_moved g (face_of old.face) event
  pub due : new.due ≡ due_moved g (face_of old.face) old.due event

-- the deadline that the timer which an event arms was started for, by the last look of its maker
abbrev pub deadline_by : Settings → ℤ → Event → Option ℕ
deadline_by g look (Arm timer start) = deadline_of g start look
deadline_by g look _ = None

-- a judge has gone on by an entry
pub record Follows (old : Judge) (e : Entry) (new : Judge) : Type 0 where
  pub settings : new.settings ≡ old.settings
  pub clock : ClockFollows old.settings old.clock e.event new.clock
  pub looks : looks_in new.looks ≡ looks_after e.by e.event (looks_in old.looks)
  pub timers : new.timers
      ≡ timers_after (deadline_by old.settings (last_look old e.by) e.event) e.event old.timers
  pub exits : (p : ℕ) → exited_at new.exits p ≡ exited_after p (exited_at old.exits p) e.event
  pub mailboxes : (p : ℕ) → mail_at new.mailboxes p
      ≡ mail_after_with (scheds_in old.schedulers) e.with e.event p (mail_at old.mailboxes p)
  pub inboxes : new.inboxes ≡ inboxes_after e.with e.event old.inboxes
  pub schedulers : new.schedulers ≡ scheds_after (rows_in old.timers) e.by e.event old.schedulers

-- a judge stands for a legal history: it keeps the state after that
pub record HasFollowed (g : Settings) (h : List Entry) (j : Judge) : Type 0 where
  pub settings : j.settings ≡ g
  pub legal : Legal g h
  pub clock : ClockIs g (state g h).clock j.clock
  pub kept : state g h ≡ shown (state g h).clock j
  pub own : OwnTimers j
  pub callers : length (looks_in j.looks).callers ≡ g.callers
  pub lookers : length (looks_in j.looks).schedulers ≡ g.schedulers
  pub wheels : length j.timers ≡ g.schedulers
  pub inboxes : length j.inboxes ≡ g.schedulers
  pub schedulers : length j.schedulers ≡ g.schedulers
