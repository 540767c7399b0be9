-- Worked histories: the lives of timers, and what was put into a mailbox and taken, by hand. A function of
-- src/worked.rt carries the statements as a contract, so that they are proved.

use Rattle.std.specs.Prelude.{◌≡◌, pos, negsuc, true, false, List, [], ◌∷◌, ◌++◌, Some, None}
use Rattle.ert_defs.specs.{Legal.Legal, States.state, Timers.Row, Worked.{small, timer, by_caller, by_sched, tick, started, delivered, cancelled, orphaned, answered, taken}, declared.entry.Act.TheVariants.Plain}
use Rattle.ert_defs.specs.{declared.entry.Actor.TheVariants.{Wheel, MailOf}, declared.entry.Entry.Entry, declared.entry.Event.TheVariants.{Look, Arm, Expire, Deliver, Drop, Mark, Advanced, Take}, declared.mail.Mail.TheVariants.Timeout}
use Rattle.ert_defs.specs.{declared.mail.Mail.TheVariants.{CancelDone, Change}, declared.settings.Mode.TheVariants.{No, Multi}, declared.settings.Settings.Settings, declared.timer.Kind.TheVariants.Wrapped}
use Rattle.ert_defs.specs.{declared.timer.Status.TheVariants.{Armed, Expired, Delivered, Cancelled, Orphaned, Dropped}, declared.timer.TimerRef.TimerRef, declared.timer.When.TheVariants.After}
use Rattle.ert_laws.specs.{Lives.life, MailOrder.{Sent, sent_to, taken_from, expired_of}}

-- the second timer of the only slot, which is never started
abbrev pub next_timer : TimerRef
next_timer = record { wheel = 0; slot = 0; generation = 2 }

-- the timer expires, its process exits, and so its message is dropped
abbrev pub worked_drop : List Entry
worked_drop = started 0
    ++ by_sched (Some (Wheel 0)) (Expire timer)
    ∷ by_caller None (Mark 0 true false)
    ∷ by_sched None (Mark 0 false true)
    ∷ by_sched None (Drop timer)
    ∷ []

-- the lives in some histories: a cancel that tells nothing is no part of one
pub record LivesAreRead : Type 0 where
  pub waits : life timer (started 5) ≡ Armed ∷ []
  pub arrives : life timer delivered ≡ Armed ∷ Expired ∷ Delivered ∷ []
  pub is_cancelled : life timer cancelled ≡ Armed ∷ Cancelled ∷ []
  pub is_orphaned : life timer orphaned ≡ Armed ∷ Orphaned ∷ []
  pub is_dropped : life timer worked_drop ≡ Armed ∷ Expired ∷ Dropped ∷ []
  pub never_armed : life next_timer delivered ≡ []

-- the message of the timer
abbrev pub sent_by_timer : Sent
sent_by_timer = record { timer = Some timer; mail = Timeout timer 7 }

-- the answer to a cancel: no timer sent it
abbrev pub sent_as_answer : Sent
sent_as_answer = record { timer = None; mail = CancelDone timer (Some 5) }

-- a change of the offset to -5 seconds, for monitor 0: no timer sent it
abbrev pub sent_as_change : Sent
sent_as_change = record { timer = None; mail = Change 0 (negsuc 4999999999) }

-- what was put into the only mailbox in some histories, of which three take it
pub record MailIsRead : Type 0 where
  pub timer_sent : sent_to (small No) 0 delivered ≡ sent_by_timer ∷ []
  pub timer_taken : taken_from 0 delivered ≡ Timeout timer 7 ∷ []
  pub answer_sent : sent_to (small No) 0 answered ≡ sent_as_answer ∷ []
  pub answer_taken : taken_from 0 answered ≡ CancelDone timer (Some 5) ∷ []
  pub none_sent : sent_to (small No) 0 worked_drop ≡ []
  pub change_sent : sent_to (small Multi) 0 taken ≡ sent_as_change ∷ []
  pub change_taken : taken_from 0 taken ≡ Change 0 (negsuc 4999999999) ∷ []

-- settings with two slots
abbrev pub wide : Settings
wide = record (small No) { slots = 2 }

-- a timer of 5 milliseconds that is started at 0 in the first slot
abbrev pub slow : Row
slow = record { timer = timer; deadline = 5; dest = 0; msg = 7; kind = Wrapped }

-- a timer of 2 milliseconds that is started after it, at 0 too, in the second slot
abbrev pub fast : Row
fast = record { timer = record { wheel = 0; slot = 1; generation = 1 }; deadline = 2; dest = 0; msg = 8; kind = Wrapped }

-- the start of a timer, so many milliseconds from the time 0
abbrev pub arm : Row → Entry
arm row = by_caller (Some (Wheel 0)) (Arm row.timer (record { when = After (pos row.deadline); dest = 0; msg = row.msg; kind = Wrapped }))

-- both are started, and the scheduler looks at the time 6 milliseconds
abbrev pub both_started : List Entry
both_started =
    by_caller None (Look (pos 0))
    ∷ arm slow
    ∷ by_caller None (Mark 0 false false)
    ∷ arm fast
    ∷ by_caller None (Mark 0 false false)
    ∷ tick Plain (pos 6000000) (pos 6000000)
    ∷ by_sched None (Look (pos 6000000))
    ∷ []

-- both expire and are delivered, and the first message is taken
abbrev pub both_expired : List Entry
both_expired =
    by_sched (Some (Wheel 0)) (Expire fast.timer)
    ∷ by_sched (Some (Wheel 0)) (Expire slow.timer)
    ∷ by_sched (Some (Wheel 0)) (Advanced 0 6)
    ∷ by_sched None (Mark 0 false false)
    ∷ by_sched (Some (MailOf 0)) (Deliver fast.timer)
    ∷ by_sched None (Mark 0 false false)
    ∷ by_sched (Some (MailOf 0)) (Deliver slow.timer)
    ∷ by_caller None (Mark 0 false false)
    ∷ by_caller (Some (MailOf 0)) (Take 0 (Some (Timeout fast.timer 8)))
    ∷ []

-- the history of all that
abbrev pub worked_mail : List Entry
worked_mail = both_started ++ both_expired

-- the one with the earlier deadline expires first, and so its message is first
pub record ExpiryIsInOrder : Type 0 where
  pub legal : Legal wide worked_mail
  pub expired : expired_of wide 0 worked_mail ≡ fast ∷ slow ∷ []
  pub sent : sent_to wide 0 worked_mail
      ≡ (record { timer = Some fast.timer; mail = Timeout fast.timer 8 })
      ∷ (record { timer = Some slow.timer; mail = Timeout slow.timer 7 }) ∷ []
  pub first_taken : taken_from 0 worked_mail ≡ Timeout fast.timer 8 ∷ []
  pub other_stands : ((state wide worked_mail).mails 0).queue ≡ Timeout slow.timer 7 ∷ []
