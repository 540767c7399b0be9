-- Mailboxes, offset monitors, inboxes and what a scheduler holds (`erlang` module reference,
-- `cancel_timer` and `read_timer` with `async`, and `monitor` with `time_offset`).

use Rattle.std.specs.Prelude.{ℕ, ℤ, Bool, false, cond, not, nat_eq, nat_lt, List, [], ◌∷◌, ◌++◌, ◌+◌, map, filter, Option, Some, None}
use Rattle.std.specs.Ordering.{int_eq}
use Rattle.ert_defs.specs.{Timers.{Row, same_timer, row_of}, declared.entry.Event.Event, declared.entry.Event.TheVariants.{Peek, Cancel, Expire, Deliver, Drop, Ask, Pick, Answer, Take, Unwatch, Watch, Tell}, declared.mail.Mail.Mail}
use Rattle.ert_defs.specs.{declared.mail.Mail.TheVariants.{Timeout, Bare as BareMail, CancelDone, ReadDone, Change}, declared.mail.Monitor.Monitor, declared.mail.Request.Request, declared.mail.RequestKind.RequestKind}
use Rattle.ert_defs.specs.{declared.mail.RequestKind.TheVariants.{Cancel as ToCancel, Read as ToRead}, declared.settings.Settings.Settings, declared.timer.Kind.Kind, declared.timer.Kind.TheVariants.{Wrapped, Bare}}
use Rattle.ert_defs.specs.{declared.timer.TimerRef.TimerRef}

-- the first of a list, where there is one
abbrev pub first_of : {X : Type 0} → List X → Option X
first_of [] = None
first_of (x ∷ xs) = Some x

-- the others
abbrev pub others_of : {X : Type 0} → List X → List X
others_of [] = []
others_of (x ∷ xs) = xs

-- what a process has: its messages, its monitors in order of number, and the next number
pub record MailState : Type 0 where
  pub queue : List Mail
  pub monitors : List Monitor
  pub next : ℕ

-- what a scheduler has: the request in its hand, the result of its last step on that, and its expired
-- timers that are not handed over, in order of expiry
pub record SchedState : Type 0 where
  pub hand : Option Request
  pub result : Option (Option ℕ)
  pub expired : List Row

-- a process that has nothing yet
abbrev pub no_mail : MailState
no_mail = record { queue = []; monitors = []; next = 0 }

-- a scheduler that has nothing: no request in its hand, and no expired timer to hand over
abbrev pub idle_sched : SchedState
idle_sched = record { hand = None; result = None; expired = [] }

-- the message of an expired timer
abbrev pub message_by : Kind → TimerRef → ℕ → Mail
message_by Wrapped timer msg = Timeout timer msg
message_by Bare timer msg = BareMail msg

-- the message of an expired timer, by its row
abbrev pub message_of : Row → Mail
message_of r = message_by r.kind r.timer r.msg

-- the answer to a request
abbrev pub answer_by : RequestKind → TimerRef → Option ℕ → Mail
answer_by ToCancel timer left = CancelDone timer left
answer_by ToRead timer left = ReadDone timer left

-- the inbox of a request: that of its timer's wheel, and the first where there is no such wheel
abbrev pub inbox_for : Settings → Request → ℕ
inbox_for g request = cond (nat_lt request.timer.wheel g.schedulers) request.timer.wheel 0

-- what is put into the asker's mailbox: nothing where no answer is wanted
abbrev pub answer_of : Request → Option ℕ → List Mail
answer_of q left = cond q.info (answer_by q.kind q.timer left ∷ []) []

-- the answer to the request in the hand
abbrev pub answer_in : Option Request → Option ℕ → List Mail
answer_in None left = []
answer_in (Some q) left = answer_of q left

-- the message of the first expired timer
abbrev pub message_in : List Row → List Mail
message_in [] = []
message_in (r ∷ rows) = message_of r ∷ []

-- whether a process has to be told an offset for this monitor
abbrev pub is_news : ℤ → Monitor → Bool
is_news offset m = not (int_eq m.told offset)

-- the messages that tell an offset, one for each monitor that it is new to
abbrev pub changes_of : ℤ → List Monitor → List Mail
changes_of offset monitors = map (λ m. Change m.number offset) (filter (is_news offset) monitors)

-- all monitors, with this offset told
abbrev pub told_of : ℤ → List Monitor → List Monitor
told_of offset monitors = map (λ m. record { number = m.number; told = offset }) monitors

-- the monitors but that number
abbrev pub without : ℕ → List Monitor → List Monitor
without n monitors = filter (λ m. not (nat_eq m.number n)) monitors

-- what a process has after an event of its mailbox; `sched` is what the scheduler of each number has
abbrev pub mail_after : (ℕ → SchedState) → MailState → Event → MailState
mail_after scheds m (Deliver timer) =
    record { queue = m.queue ++ message_in (scheds timer.wheel).expired; monitors = m.monitors; next = m.next }
mail_after scheds m (Answer wheel left) =
    record { queue = m.queue ++ answer_in (scheds wheel).hand left; monitors = m.monitors; next = m.next }
mail_after scheds m (Take process got) = record { queue = others_of m.queue; monitors = m.monitors; next = m.next }
mail_after scheds m (Unwatch process monitor was) =
    record { queue = m.queue; monitors = without monitor m.monitors; next = m.next }
mail_after scheds m (Watch process monitor offset) = record {
  queue = m.queue;
  monitors = m.monitors ++ (record { number = monitor; told = offset }) ∷ [];
  next = monitor + 1;
}
mail_after scheds m (Tell process offset) =
    record { queue = m.queue ++ changes_of offset m.monitors; monitors = told_of offset m.monitors; next = m.next }
mail_after scheds m _ = m

-- the requests that wait for a scheduler after an event of its inbox
abbrev pub inbox_after : List Request → Event → List Request
inbox_after requests (Ask wheel request) = requests ++ request ∷ []
inbox_after requests (Pick wheel got) = others_of requests
inbox_after requests _ = requests

-- whether the request in the hand is about this timer
abbrev pub is_about : TimerRef → Option Request → Bool
is_about timer None = false
is_about timer (Some q) = same_timer q.timer timer

-- the expired timers and one more, where it has a row
abbrev pub with_row : List Row → Option Row → List Row
with_row expired None = expired
with_row expired (Some r) = expired ++ r ∷ []

-- what a scheduler has after an event of its own; `rows` are the rows of the wheel of each number
abbrev pub sched_after : (ℕ → List Row) → SchedState → Event → SchedState
sched_after rows s (Peek timer left) =
    record { hand = s.hand; result = cond (is_about timer s.hand) (Some left) s.result; expired = s.expired }
sched_after rows s (Cancel timer left) =
    record { hand = s.hand; result = cond (is_about timer s.hand) (Some left) s.result; expired = s.expired }
sched_after rows s (Expire timer) =
    record { hand = s.hand; result = s.result; expired = with_row s.expired (row_of (rows timer.wheel) timer) }
sched_after rows s (Deliver timer) = record { hand = s.hand; result = s.result; expired = others_of s.expired }
sched_after rows s (Drop timer) = record { hand = s.hand; result = s.result; expired = others_of s.expired }
sched_after rows s (Pick wheel got) = record { hand = got; result = None; expired = s.expired }
sched_after rows s (Answer wheel left) = record { hand = None; result = None; expired = s.expired }
sched_after rows s _ = s
