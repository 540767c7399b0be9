-- What the model says of the worked histories, as they were judged by hand. A function of src/worked.rt carries
-- the statements as a contract, so that they are proved.

use Rattle.std.specs.Prelude.{◌≡◌, negsuc, List, [], ◌∷◌, ◌++◌, Option, Some, None}
use Rattle.ert_defs.specs.{Legal.Legal, States.state, Worked.{small, timer, by_caller, by_sched, begun, started, delivered, read, cancelled, orphaned, asked, answered, told, told_twice, taken}, declared.entry.Actor.TheVariants.Wheel}
use Rattle.ert_defs.specs.{declared.entry.Actor.TheVariants.MailOf, declared.entry.Entry.Entry, declared.entry.Event.TheVariants.{Cancel, Expire, Orphan, Advanced, Answer}, declared.mail.Mail.Mail, declared.mail.Mail.TheVariants.Change}
use Rattle.ert_defs.specs.{declared.settings.Mode.TheVariants.{No, Multi}, declared.timer.Status.Status, declared.timer.Status.TheVariants.{Delivered, Cancelled, Orphaned}}

-- an entry isn't legal after a history that is
abbrev pub Refuses : List Entry → Entry → Type 0
Refuses h e = Legal (small No) h × (Legal (small No) (h ++ e ∷ []) → ⊥)

-- the status of the timer after a history
abbrev pub judged_status : List Entry → Option Status
judged_status h = (state (small No) h).status timer

-- a timer of 5 milliseconds that is started at 1 is due at 6: at 1 the scheduler has none to settle
abbrev pub TimerWaits : Type 0
TimerWaits = Legal (small No) (started 5 ++ by_sched (Some (Wheel 0)) (Advanced 0 1) ∷ [])

-- nor can the timer expire at 1
abbrev pub EarlyExpiryIsRefused : Type 0
EarlyExpiryIsRefused = Refuses (started 5) (by_sched (Some (Wheel 0)) (Expire timer))

-- the timer is delivered then
abbrev pub TimerIsDelivered : Type 0
TimerIsDelivered = Legal (small No) delivered × (judged_status delivered ≡ Some Delivered)

-- the timer is cancelled then
abbrev pub TimerIsCancelled : Type 0
TimerIsCancelled = Legal (small No) cancelled × (judged_status cancelled ≡ Some Cancelled)

-- a cancel can't tell another number
abbrev pub OtherCancelIsRefused : Type 0
OtherCancelIsRefused = Refuses read (by_caller None (Cancel timer (Some 4)))

-- the timer is orphaned then
abbrev pub TimerIsOrphaned : Type 0
TimerIsOrphaned = Legal (small No) orphaned × (judged_status orphaned ≡ Some Orphaned)

-- a timer isn't cancelled so while its destination stands
abbrev pub EarlyOrphanIsRefused : Type 0
EarlyOrphanIsRefused = Refuses (begun 5) (by_caller (Some (Wheel 0)) (Orphan timer))

-- the timer is cancelled then
abbrev pub RequestIsAnswered : Type 0
RequestIsAnswered = Legal (small No) answered × (judged_status answered ≡ Some Cancelled)

-- the scheduler can't tell another number
abbrev pub OtherAnswerIsRefused : Type 0
OtherAnswerIsRefused = Refuses asked (by_sched (Some (MailOf 0)) (Answer 0 (Some 4)))

-- the messages in the mailbox after a history
abbrev pub queue_after : List Entry → List Mail
queue_after h = ((state (small Multi) h).mails 0).queue

-- a monitor of the time offset is told the new one once
pub record MonitorIsToldOnce : Type 0 where
  pub legal : Legal (small Multi) taken
  pub once : queue_after told ≡ Change 0 (negsuc 4999999999) ∷ []
  pub not_again : queue_after told_twice ≡ queue_after told
  pub empty : queue_after taken ≡ []
