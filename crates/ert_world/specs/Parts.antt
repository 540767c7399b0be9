-- The parts of a service, and when they stand for its history.

use Rattle.std.specs.Prelude.{◌≡◌, ℕ, ◌<◌, false, List, length, Option, None, slice_index_or}
use Rattle.ert_clock.specs.Shown.{Shown, ClockStands}
use Rattle.ert_defs.specs.{Legal.Legal, declared.entry.Actor.Actor, declared.entry.Actor.TheVariants.{Keeper, Wheel, Inbox, Sched, MailOf}, declared.entry.Entry.Entry, declared.settings.Settings.Settings}
use Rattle.ert_mail.specs.{Inboxes.{Waiting, InboxStands}, Mailboxes.{Mailbox, MailboxStands as MailStands}, Turns.TurnRow}
use Rattle.ert_table.specs.Held.{is_held}
use Rattle.ert_timers.specs.{Parts.{Part, PartStands as WheelStands}, SchedParts.SchedStands, declared.sched_part.SchedPart.SchedPart}

-- the parts of a service: the clock's, those of each wheel, inbox, process and scheduler, and the row of the processes that
-- may have mail, where there is one
pub record AllParts : Type 0 where
  pub keeper : Shown
  pub wheels : List Part
  pub inboxes : List Waiting
  pub mails : List Mailbox
  pub scheds : List SchedPart
  pub turns : Option TurnRow

-- the parts of a service that has these, without a row
abbrev pub parts_of : Shown → List Part → List Waiting → List Mailbox → List SchedPart → AllParts
parts_of keeper wheels inboxes mails scheds =
    record { keeper = keeper; wheels = wheels; inboxes = inboxes; mails = mails; scheds = scheds; turns = None }

-- parts of one kind stand in order of number, so many of them; each stands for its history but those that
-- are lent to a call
pub record AreOrdered {X : Type 0} (number : X → ℕ) (stands : X → Type 0) (actor : ℕ → Actor) (lent : List Actor) (count : ℕ) (xs : List X) : Type 0 where
  pub counted : length xs ≡ count
  pub named : (i : ℕ) (d : X) → i < count → number (slice_index_or xs i d) ≡ i
  pub stand : (i : ℕ) (d : X) → i < count → is_held lent (actor i) ≡ false → stands (slice_index_or xs i d)

-- all parts stand for a history but those that are lent
pub record Stand (g : Settings) (h : List Entry) (lent : List Actor) (parts : AllParts) : Type 0 where
  pub legal : Legal g h
  pub keeper : is_held lent Keeper ≡ false → ClockStands g h parts.keeper
  pub wheels : AreOrdered (λ p. p.number) (WheelStands g h) Wheel lent g.schedulers parts.wheels
  pub inboxes : AreOrdered (λ q. q.wheel) (InboxStands g h) Inbox lent g.schedulers parts.inboxes
  pub mails : AreOrdered (λ m. m.process) (MailStands g h) MailOf lent g.processes parts.mails
  pub scheds : AreOrdered (λ p. p.wheel) (SchedStands g h) Sched lent g.schedulers parts.scheds
