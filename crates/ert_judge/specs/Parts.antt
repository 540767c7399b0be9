-- The parts that a judge keeps, and how each goes on by an event. A part is a cell for each number. Those of callers
-- and of schedulers are a list, and a cell past its end is as at the opening.

use Rattle.std.specs.{BTreeMap.get, BTreeSet.contains, Ordering.nat_cmp}
use Rattle.std.specs.Prelude.{ℕ, ℤ, unwrap_or, Bool, cond, List, [], ◌∷◌, ◌++◌, ◌+◌, get_or, set, map, replicate, Option, Some, None}
use Rattle.ert_defs.specs.{Actors.is_with, Mails.{MailState, SchedState, no_mail, idle_sched, mail_after, inbox_after, sched_after, is_about, with_row, message_in, answer_in, without, changes_of, told_of}, Timers.{Row, row_from}}
use Rattle.ert_defs.specs.{declared.entry.Actor.Actor, declared.entry.Actor.TheVariants.{Inbox, Sched, MailOf, Caller}, declared.entry.Event.Event, declared.entry.Event.TheVariants.{Look, Arm, Cancel, Expire, Orphan, Deliver, Drop}}
use Rattle.ert_defs.specs.{declared.mail.Request.Request, declared.settings.Settings.Settings, declared.timer.Start.Start, declared.timer.Status.Status, declared.timer.Status.TheVariants.{Armed, Expired, Delivered, Cancelled, Orphaned}}
use Rattle.ert_defs.specs.{declared.timer.Status.TheVariants.Dropped, declared.timer.TimerRef.TimerRef}
use Rattle.ert_judge.specs.{Uses.IsNewUse, Wheels.{timers_at, rows_of, status_among, moved}, declared.state.exits.Exits.Exits, declared.state.looks.Looks.Looks, declared.state.mailboxes.Mailboxes.Mailboxes}
use Rattle.ert_judge.specs.{declared.state.wheels.Timer.Timer}

-- whether a process has exited
abbrev pub exited_at : Exits → ℕ → Bool
exited_at exits p = contains nat_cmp exits.exited p

-- the last looks, of callers and of schedulers
pub record LastLooks : Type 0 where
  pub start : ℤ
  pub callers : List ℤ
  pub schedulers : List ℤ

-- the last looks that are kept
abbrev pub looks_in : Looks → LastLooks
looks_in l = record { start = l.start; callers = l.callers.items; schedulers = l.schedulers.items }

-- nobody has looked
abbrev pub no_looks : Settings → LastLooks
no_looks g = record { start = g.start; callers = replicate g.callers g.start; schedulers = replicate g.schedulers g.start }

-- the last look of an actor
abbrev pub look_of : LastLooks → Actor → ℤ
look_of l (Caller n) = get_or l.callers n l.start
look_of l (Sched n) = get_or l.schedulers n l.start
look_of l _ = l.start

-- the last looks after a look of an actor
abbrev pub looked_by : Actor → ℤ → LastLooks → LastLooks
looked_by (Caller n) now l = record { start = l.start; callers = set l.callers n now; schedulers = l.schedulers }
looked_by (Sched n) now l = record { start = l.start; callers = l.callers; schedulers = set l.schedulers n now }
looked_by _ now l = l

-- and after any event of it
abbrev pub looks_after : Actor → Event → LastLooks → LastLooks
looks_after by (Look now) l = looked_by by now l
looks_after by _ l = l

-- the requests that wait for a scheduler
abbrev pub inbox_at : List (List Request) → ℕ → List Request
inbox_at xs w = get_or xs w []

-- the inboxes after an event that is made with an actor
abbrev pub inboxes_after : Option Actor → Event → List (List Request) → List (List Request)
inboxes_after (Some (Inbox w)) event xs = set xs w (inbox_after (inbox_at xs w) event)
inboxes_after _ event xs = xs

-- the rows of each wheel
abbrev pub rows_in : List (List Timer) → ℕ → List Row
rows_in ws w = rows_of (timers_at ws w)

-- the status of each timer
abbrev pub status_at : List (List Timer) → TimerRef → Option Status
status_at ws r = status_among (timers_at ws r.wheel) r

-- the wheels after a timer has moved from one status to another
abbrev pub with_moved : TimerRef → Status → Status → List (List Timer) → List (List Timer)
with_moved r from to ws = set ws r.wheel (moved r from to (timers_at ws r.wheel))

-- an armed timer with this row
abbrev pub armed_timer : Row → Timer
armed_timer row = record { row = row; status = Armed }

-- the wheels after a timer was armed, where its start has a deadline
abbrev pub with_armed : TimerRef → Start → Option ℕ → List (List Timer) → List (List Timer)
with_armed r start deadline ws = set ws r.wheel (timers_at ws r.wheel ++ map armed_timer (row_from r start deadline))

-- and after any event, where a timer that is armed by it was started for this deadline
abbrev pub timers_after : Option ℕ → Event → List (List Timer) → List (List Timer)
timers_after deadline (Arm timer start) ws = with_armed timer start deadline ws
timers_after deadline (Cancel timer left) ws = with_moved timer Armed Cancelled ws
timers_after deadline (Expire timer) ws = with_moved timer Armed Expired ws
timers_after deadline (Orphan timer) ws = with_moved timer Armed Orphaned ws
timers_after deadline (Deliver timer) ws = with_moved timer Expired Delivered ws
timers_after deadline (Drop timer) ws = with_moved timer Expired Dropped ws
timers_after deadline _ ws = ws

-- a timer that an event arms has a generation that no timer of its slot has
abbrev pub ArmsNew : Event → List (List Timer) → Type 0
ArmsNew (Arm timer start) ws = IsNewUse (timers_at ws timer.wheel) timer.slot timer.generation
ArmsNew _ ws = Unit {0}

-- what a scheduler has
abbrev pub sched_at : List SchedState → ℕ → SchedState
sched_at xs w = get_or xs w idle_sched

-- after a look at a timer, whose result it keeps where the request in its hand is about that
abbrev pub with_result : TimerRef → Option ℕ → SchedState → SchedState
with_result timer left s = record { hand = s.hand; result = cond (is_about timer s.hand) (Some left) s.result; expired = s.expired }

-- after a timer expired, where it has a row
abbrev pub after_expiry : Option Row → SchedState → SchedState
after_expiry row s = record { hand = s.hand; result = s.result; expired = with_row s.expired row }

-- after its hand was filled or emptied
abbrev pub with_hand : Option Request → SchedState → SchedState
with_hand request s = record { hand = request; result = None; expired = s.expired }

-- the schedulers after an event of an actor
abbrev pub scheds_after : (ℕ → List Row) → Actor → Event → List SchedState → List SchedState
scheds_after rows (Sched w) event xs = set xs w (sched_after rows (sched_at xs w) event)
scheds_after rows _ event xs = xs

-- what each scheduler has
abbrev pub scheds_in : List SchedState → ℕ → SchedState
scheds_in xs w = sched_at xs w

-- what a process has after the message of an expired timer was put in
abbrev pub with_message : Option Row → MailState → MailState
with_message row m = record { queue = m.queue ++ message_in (with_row [] row); monitors = m.monitors; next = m.next }

-- after the answer to a request was put in
abbrev pub with_answer_in : Option Request → Option ℕ → MailState → MailState
with_answer_in request left m =
    record { queue = m.queue ++ answer_in request left; monitors = m.monitors; next = m.next }

-- after a monitor was removed
abbrev pub unwatched : ℕ → MailState → MailState
unwatched n m = record { queue = m.queue; monitors = without n m.monitors; next = m.next }

-- after one was made
abbrev pub watched : ℕ → ℤ → MailState → MailState
watched n offset m = record {
  queue = m.queue;
  monitors = m.monitors ++ (record { number = n; told = offset }) ∷ [];
  next = n + 1;
}

-- after an offset was told
abbrev pub told_all : ℤ → MailState → MailState
told_all offset m =
    record { queue = m.queue ++ changes_of offset m.monitors; monitors = told_of offset m.monitors; next = m.next }

-- what a process has, and nothing where no mailbox of it is kept
abbrev pub mail_at : Mailboxes → ℕ → MailState
mail_at kept p = unwrap_or (get nat_cmp kept.mailboxes p) no_mail

-- what a process has after an event that is made with an actor
abbrev pub mail_after_with : (ℕ → SchedState) → Option Actor → Event → ℕ → MailState → MailState
mail_after_with scheds with event p m = cond (is_with with (MailOf p)) (mail_after scheds m event) m
