-- What was put into the mailbox of a process, in order, and which timers sent it. The functions of
-- src/mail_order.rt carry the laws as contracts, so that they are proved.

use Rattle.std.specs.Prelude.{◌≡◌, ℕ, Bool, true, false, cond, ◌&&◌, nat_eq, All, filter, filter_map, map, option_to_list, List, [], ◌∷◌, ◌++◌, Option, Some, None}
use Rattle.ert_defs.specs.{Actors.has_actor, Legal.Legal, Mails.{MailState, message_of, answer_in, changes_of}, States.{State, opening, next, state}, Timers.{Row, row_of}, declared.entry.Actor.TheVariants.MailOf, declared.entry.Entry.Entry}
use Rattle.ert_defs.specs.{declared.entry.Event.Event, declared.entry.Event.TheVariants.{Expire, Deliver, Answer, Take, Tell}, declared.mail.Mail.Mail, declared.settings.Settings.Settings, declared.timer.Status.Status}
use Rattle.ert_defs.specs.{declared.timer.Status.TheVariants.{Delivered, Dropped}, declared.timer.TimerRef.TimerRef}

-- a message that was put into a mailbox, and the timer that sent it, where one did
pub record Sent : Type 0 where
  pub timer : Option TimerRef
  pub mail : Mail

-- the message of a timer, by its row
abbrev pub sent_by_row : Row → Sent
sent_by_row row = record { timer = Some row.timer; mail = message_of row }

-- a message that no timer sent
abbrev pub sent_by_none : Mail → Sent
sent_by_none mail = record { timer = None; mail = mail }

-- what an event puts into a mailbox: the message of a timer, an answer, or changes of the offset
abbrev pub sent_in : State → MailState → Event → List Sent
sent_in s m (Deliver timer) = map sent_by_row (option_to_list (row_of (s.rows timer.wheel) timer))
sent_in s m (Answer wheel left) = map sent_by_none (answer_in (s.scheds wheel).hand left)
sent_in s m (Tell process offset) = map sent_by_none (changes_of offset m.monitors)
sent_in s m _ = []

-- what an entry puts into the mailbox of a process
abbrev pub sent_at : ℕ → State → Entry → List Sent
sent_at p s e = cond (has_actor e (MailOf p)) (sent_in s (s.mails p) e.event) []

-- what the entries of a history give one after the other, each in the state before it
abbrev pub gathered_from : {X : Type 0} → Settings → (State → Entry → List X) → State → List Entry → List X
gathered_from g give s [] = []
gathered_from g give s (e ∷ es) = give s e ++ gathered_from g give (next g s e) es

-- what the entries of a history give one after the other, from the opening on
abbrev pub gathered : {X : Type 0} → Settings → (State → Entry → List X) → List Entry → List X
gathered g give h = gathered_from g give (opening g) h

-- what a history put into the mailbox of a process, in order
abbrev pub sent_to : Settings → ℕ → List Entry → List Sent
sent_to g p h = gathered g (sent_at p) h

-- the message that an event takes from the mailbox of a process
abbrev pub taken_in : ℕ → Event → Option Mail
taken_in p (Take process got) = cond (nat_eq process p) got None
taken_in p _ = None

-- the messages that a history took from the mailbox of a process, in order
abbrev pub taken_from : ℕ → List Entry → List Mail
taken_from p h = filter_map (λ e. taken_in p e.event) h

-- what was put into a mailbox is what was taken from it, and then what stands in it
abbrev pub LawOfMailboxes : Type 0
LawOfMailboxes = (g : Settings) (h : List Entry) (p : ℕ) → Legal g h
    → map (λ x. x.mail) (sent_to g p h) ≡ taken_from p h ++ ((state g h).mails p).queue

-- the row of the timer of a wheel that an event lets expire
abbrev pub expired_in : ℕ → State → Event → List Row
expired_in w s (Expire timer) = cond (nat_eq timer.wheel w) (option_to_list (row_of (s.rows w) timer)) []
expired_in w s _ = []

-- the rows of the timers of a wheel that expired, in order of expiry
abbrev pub expired_of : Settings → ℕ → List Entry → List Row
expired_of g w h = gathered g (λ s e. expired_in w s e.event) h

-- a timer's message was delivered
abbrev pub is_delivered : Option Status → Bool
is_delivered (Some Delivered) = true
is_delivered _ = false

-- a timer's message was delivered, or dropped
abbrev pub is_handed_over : Option Status → Bool
is_handed_over (Some Delivered) = true
is_handed_over (Some Dropped) = true
is_handed_over _ = false

-- a scheduler hands its expired timers over in order of expiry: those that wait are the last
pub record InTurn (g : Settings) (h : List Entry) (w : ℕ) : Type 0 where
  pub handed : List Row
  pub all : expired_of g w h ≡ handed ++ ((state g h).scheds w).expired
  pub over : All (λ row. is_handed_over ((state g h).status row.timer) ≡ true) handed

-- in each legal history each scheduler does so
abbrev pub LawOfExpiryOrder : Type 0
LawOfExpiryOrder = (g : Settings) (h : List Entry) (w : ℕ) → Legal g h → InTurn g h w

-- a timer, where there is one, is of a wheel
abbrev pub is_of_wheel : ℕ → Option TimerRef → Bool
is_of_wheel w None = false
is_of_wheel w (Some timer) = nat_eq timer.wheel w

-- a message is that of a timer of a wheel
abbrev pub is_from : ℕ → Sent → Bool
is_from w sent = is_of_wheel w sent.timer

-- the timer of a row was delivered, and to this process
abbrev pub is_delivered_to : State → ℕ → Row → Bool
is_delivered_to s p row = is_delivered (s.status row.timer) && nat_eq row.dest p

-- of what was put into a mailbox, the messages of the timers of one wheel are, in order of expiry, those of its
-- timers that were delivered to that process
abbrev pub LawOfOrder : Type 0
LawOfOrder = (g : Settings) (h : List Entry) (w p : ℕ) → Legal g h
    → filter (is_from w) (sent_to g p h) ≡ map sent_by_row (filter (is_delivered_to (state g h) p) (expired_of g w h))
